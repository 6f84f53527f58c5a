use Rattle.image_check.proofs.PartLemmas.{ArePassed}
use Rattle.image_check.proofs.parts.check_claims.Given as goal

abbrev pub invariant-loop-sector : goal.invariant-loop-sector
invariant-loop-sector l = ArePassed l.sector l.certificate.sectors l.passed
