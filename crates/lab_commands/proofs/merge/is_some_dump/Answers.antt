use Rattle.std.proofs.Common.{◌∙◌, arith}
use Rattle.lab_commands.proofs.MergeLemmas.{others_more}
use Rattle.lab_commands.proofs.merge.is_some_dump.Goals as goal

pub loop-place-preserved : goal.loop-place-preserved
loop-place-preserved g c =
    let inv = c.loop-place.invariant in
    let said = rw inv.same at c.in_ok-is_dump.ensures.said in
    record {
      same = c.in_ok-is_dump.ensures.same ∙ inv.same;
      others = others_more (g.F.LabFiles.answers c.args.files.now) c.args.dumps.now c.args.path.now c.loop-place.place _ c.in_ok-is_dump.field-0 (omega arith) inv.others said c.if-branch.false;
    }
