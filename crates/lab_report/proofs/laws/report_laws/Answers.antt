use Rattle.lab_report.proofs.DigestLemmas.{reads_digests}
use Rattle.lab_report.proofs.WrittenLemmas.{told_said}
use Rattle.lab_report.proofs.laws.report_laws.Goals as goal

pub returns : goal.returns
returns c = record { back = told_said; digests = reads_digests }
