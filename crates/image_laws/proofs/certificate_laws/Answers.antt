use Rattle.image_laws.proofs.CertificateLemmas.{one_next, one_certificate, one_mount, whole_first}
use Rattle.image_laws.proofs.certificate_laws.Goals as goal

pub returns-clause-next : goal.returns-clause-next
returns-clause-next c = one_next

pub returns-clause-certificate : goal.returns-clause-certificate
returns-clause-certificate c = one_certificate

pub returns-clause-mount : goal.returns-clause-mount
returns-clause-mount c = one_mount

pub returns-clause-memory : goal.returns-clause-memory
returns-clause-memory c = whole_first
