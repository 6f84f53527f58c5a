use Rattle.std.proofs.Common.{refl, subst}
use Rattle.ftl_disk.proofs.dies.put.Goals as goal

pub returns-in-Ok : goal.returns-in-Ok
returns-in-Ok g c = rw c.in-Ok.is (refl, refl, c.put.ensures)

pub returns-in-Err : goal.returns-in-Err
returns-in-Err g c = rw c.in-Err.is (c.of_power-number.ensures, subst (λ n. g.W.Way.calls.leaves c.args.way.now n c.leave.new.self) c.into_nand.ensures c.leave.ensures, refl)
