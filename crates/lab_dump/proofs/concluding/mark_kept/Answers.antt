use Rattle.lab_dump.proofs.ConcludeLemmas.{marked_start, marked_more}
use Rattle.lab_dump.proofs.concluding.mark_kept.Goals as goal

pub loop-i-init : goal.loop-i-init
loop-i-init c = marked_start c.args.pages c.args.traces.now c.args.kept.now c.requires.none

pub loop-i-preserved : goal.loop-i-preserved
loop-i-preserved c = marked_more c.args.pages c.args.traces.now c.loop-i.i c.loop-i.kept c.mark.new.kept _ c.row.result c.loop-i.invariant c.loop-i-test.true c.row.ensures c.mark.ensures.size c.mark.ensures.each
