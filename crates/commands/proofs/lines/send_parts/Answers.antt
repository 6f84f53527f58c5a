use Rattle.std.proofs.Common.{[]}
use Rattle.std.proofs.lemmas.Result.{err_from_is_err_and}
use Rattle.command_words.specs.Words.{texts}
use Rattle.commands.proofs.PartLemmas.{part_at, sent_more, sent_stop}
use Rattle.commands.proofs.lines.send_parts.Goals as goal

pub loop-part-preserved : goal.loop-part-preserved
loop-part-preserved g c =
    let at = part_at c.args.parts.now c.loop-part.part-index c.as_bytes.result.now (record { ref_ptr = (0, 0); now = [] }) c.loop-part-test.true c.as_bytes.ensures.value in
    sent_more _ _ _ (texts c.args.parts.now) c.loop-part.part-index c.as_bytes.result.now at c.loop-part.invariant c.in_ok-send.ensures

pub returns-in_err-send : goal.returns-in_err-send
returns-in_err-send g c =
    let p = err_from_is_err_and c.from_residual.result c.from_residual.ensures.1 in
    let stopped = c.in_err-send.ensures in
    let at = part_at c.args.parts.now c.loop-part.part-index c.as_bytes.result.now (record { ref_ptr = (0, 0); now = [] }) c.loop-part-test.true c.as_bytes.ensures.value in
    rw (p.1, p.2) (stopped.0, sent_stop _ _ _ (texts c.args.parts.now) c.loop-part.part-index c.as_bytes.result.now at c.loop-part.invariant stopped.1)
