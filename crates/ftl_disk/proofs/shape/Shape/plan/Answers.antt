use Rattle.std.proofs.Common.{inr, rules}
use Rattle.std.proofs.lemmas.Result.{err_from_is_err_and}
use Rattle.ftl_disk.proofs.shape.Shape.plan.Goals as goal

pub returns-in_err-chip : goal.returns-in_err-chip
returns-in_err-chip c =
    let p = err_from_is_err_and c.from_residual.result c.from_residual.ensures.1 in
    rw (p.1, p.2) (inr (inr (record { geometry = c.in-Ok.geometry; numbers = c.in-Ok.ensures.ok; cache = search rules; codes = c.in_err-chip.ensures })))
