use Rattle.std.proofs.Common.{arith}
use Rattle.certificate.proofs.ClaimLemmas.{parts_fit}
use Rattle.certificate.proofs.certificate.Certificate.new.Goals as goal

pub invariant_of-result : goal.invariant_of-result
invariant_of-result c = parts_fit _ _ _ _ _ _ c.requires (omega arith)

pub returns-clause-fits : goal.returns-clause-fits
returns-clause-fits c = parts_fit _ _ _ _ _ _ c.requires (omega arith)
