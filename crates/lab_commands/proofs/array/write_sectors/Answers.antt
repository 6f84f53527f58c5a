use Rattle.std.proofs.Common.{Bool, IfOk, IfSome, sym, subst}
use Rattle.lab_dump.specs.Written.{IsArrayWritten}
use Rattle.lab_commands.proofs.array.write_sectors.Goals as goal

pub returns-then-damaged-clause-ok : goal.returns-then-damaged-clause-ok
returns-then-damaged-clause-ok g c =
    let remaining = g.R.DumpReader.remaining c.args.dump.now in
    subst (λ (b : Bool). IfOk c.write_damaged.result (λ written. IfSome remaining (IsArrayWritten c.args.geometry.now c.args.last b (g.T.Pieces.pieces written.target) written.held.items written.left))) (sym c.if-damaged.true) c.write_damaged.ensures.ok

pub returns-else-damaged-clause-ok : goal.returns-else-damaged-clause-ok
returns-else-damaged-clause-ok g c =
    let remaining = g.R.DumpReader.remaining c.args.dump.now in
    subst (λ (b : Bool). IfOk c.write_array.result (λ written. IfSome remaining (IsArrayWritten c.args.geometry.now c.args.last b (g.T.Pieces.pieces written.target) written.held.items written.left))) (sym c.if-damaged.false) c.write_array.ensures.ok
