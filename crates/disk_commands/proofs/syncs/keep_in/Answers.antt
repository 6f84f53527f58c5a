use Rattle.std.proofs.Common.{None, ap, not, subst, sym}
use Rattle.disk_commands.specs.MarkFile.{FailsLast, KeepsMarkIfAny}
use Rattle.disk_commands.proofs.syncs.keep_in.Goals as goal

pub returns-in-Err : goal.returns-in-Err
returns-in-Err g c =
    let file = g.F.ByteFile in
    subst (λ kept. KeepsMarkIfAny file.held file.honest (FailsLast file.wrote file.refused) kept c.args.mark (not c.is_fresh-first.result) None) (sym c.in-Some.is)
    (ap not c.is_fresh-first.ensures, c.keep.new.self, c.in-Err.ensures.keeps, c.in-Err._why, c.in-Err.ensures.fails)
