use Rattle.std.proofs.Common.{◌∙◌, sym}
use Rattle.lab_dump.proofs.ConcludeLemmas.{ties_all, ties_more}
use Rattle.lab_dump.proofs.concluding.has_tie.Goals as goal

pub loop-i-preserved : goal.loop-i-preserved
loop-i-preserved c = ties_more c.args.traces.now c.loop-i.i _ c.loop-i-test.true c.loop-i.invariant (sym c.is_tied.ensures ∙ c.if-is_tied.false)

pub returns-then-is_tied : goal.returns-then-is_tied
returns-then-is_tied c = ties_all c.args.traces.now c.loop-i.i _ c.loop-i-test.true (sym c.is_tied.ensures ∙ c.if-is_tied.true)
