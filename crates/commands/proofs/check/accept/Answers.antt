use Rattle.std.proofs.Common.{Err, ap, ◌∙◌}
use Rattle.std.proofs.KnownBytes.{Keeps-refl}
use Rattle.std.proofs.lemmas.Result.{err_from_is_err_and}
use Rattle.commands.proofs.CheckLemmas.{held_accepts, unheld_accepts}
use Rattle.commands.proofs.check.accept.Goals as goal

pub returns-in_err-hold : goal.returns-in_err-hold
returns-in_err-hold g c =
    let p = err_from_is_err_and c.from_residual.result c.from_residual.ensures.1 in
    unheld_accepts _ _ _ _ _ _ _ c.from_residual.result c.in_err-hold.field-0.0 (p.1 ∙ ap Err p.2) (Keeps-refl _) c.in_err-hold.ensures.fault

pub returns : goal.returns
returns g c =
    held_accepts _ _ _ _ _ _ _ c.print_accepted.result c.in_ok-hold.ensures.ok c.print_accepted.ensures.ok c.print_accepted.ensures.fault
