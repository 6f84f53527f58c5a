use Rattle.json.specs.Print.{escape, escape_byte}
use Rattle.lab_commands.proofs.PrintLemmas.{failed}
use Rattle.lab_custody.proofs.LineLemmas.{escape_both, escape_one, stopped_put}
use Rattle.lab_custody.proofs.lines.put_bytes.Goals as goal

pub returns-in_err-put_byte : goal.returns-in_err-put_byte
returns-in_err-put_byte g c =
    failed _ c.from_residual.result _ _ _ _ c.from_residual.ensures.1
    (stopped_put escape escape_byte escape_both escape_one _ _ c.args.bytes.now c.loop-place.place 0 (g.W.Output.contents c.args.out.now) (g.W.Output.contents c.loop-place.out) (g.W.Output.contents c.put_byte.new.out)
    c.loop-place-test.true c.loop-place.invariant c.in_err-put_byte.ensures)
