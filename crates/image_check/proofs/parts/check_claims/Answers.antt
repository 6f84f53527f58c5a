use Rattle.std.proofs.Common.{arith, ◌∙◌, ap, Some}
use Rattle.image_check.proofs.PartLemmas.{no_such_record}
use Rattle.image_check.proofs.parts.check_claims.Goals as goal

pub returns-then-not-passed-sector-clause-err : goal.returns-then-not-passed-sector-clause-err
returns-then-not-passed-sector-clause-err c = λ g capacity image whole size passes.
    no_such_record g capacity image c.args.certificate.now c.loop-sector.sector c.in-Some.row c.args.passed.now whole size passes c.loop-sector.invariant (omega arith) (c.sector_row.ensures.is ∙ ap Some c.in-Some.is) c.if-not-passed-sector.true
