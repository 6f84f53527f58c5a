use Rattle.std.proofs.Common.{Err, ap, inl, refl, rules}
use Rattle.commands.proofs.CommandLemmas.{order_obeys}
use Rattle.commands.proofs.TakenLemmas as taken
use Rattle.commands.proofs.program.obey.Goals as goal

pub returns-in-Ok : goal.returns-in-Ok
returns-in-Ok g c = record { does = order_obeys _ _ _ _ _ _ _ _ c.in-Ok.order c.in-Ok.ensures.ok c.carry_out.ensures.does; takes = taken.obeying _ _ _ c.in-Ok.order _ c.in-Ok.ensures.ok c.carry_out.ensures.takes }

pub returns-in-Err-NoSuchCommand : goal.returns-in-Err-NoSuchCommand
returns-in-Err-NoSuchCommand g c = record { does = (search rules, search rules, c.in-Err-NoSuchCommand.ensures.none (ap Err c.in-Err-NoSuchCommand.field-0-is)); takes = inl refl }
