mod RefusalLemmas
mod AnswerLemmas
mod CertificateLemmas
mod SectorLemmas
mod TableLemmas
mod KeptLemmas
mod FormatLemmas
pub mod PowerLemmas
mod StaleLemmas
mod VersionLemmas
