use Rattle.std.proofs.Common.{◌≡◌, refl, ◌∙◌, subst, arith}
use Rattle.std.proofs.lemmas.List.{get_or_default}
use Rattle.lab_dump.proofs.ConcludeLemmas.{AreSummed, summed_all, summed_block, summed_start}
use Rattle.lab_dump.proofs.concluding.sum_blocks.Goals as goal

pub loop-block-init : goal.loop-block-init
loop-block-init c = λ image size seen. summed_start c.args.geometry.now image _ refl refl refl refl seen.outside_is

pub loop-block-preserved : goal.loop-block-preserved
loop-block-preserved c = λ image size seen.
    let g = c.args.geometry.now in
    let dt = c.args.doubting.now in
    let n = c.loop-block.block in
    summed_block g image dt c.args.plain n c.index-unsound.result.now c.index-holes.result.now c.loop-block.doubts c.added-doubts.result c.excuse_at-excuse.result size seen (omega arith)
    (c.loop-block.invariant image size seen)
    (c.excuse_at-excuse.ensures image size seen)
    (c.index-unsound.ensures ∙ get_or_default dt.unsound.items n c.index-unsound.result.now 0 (omega arith))
    (c.index-holes.ensures ∙ get_or_default dt.holes.items n c.index-holes.result.now 0 (omega arith))
    c.added-doubts.ensures

pub returns : goal.returns
returns c = λ image size seen.
    let g = c.args.geometry.now in
    let all : c.loop-block.block ≡ g.blocks = omega (arith, c.loop-block-test.false, c.loop-block.auto.block-end) in
    summed_all g image c.loop-block.doubts size (subst (λ n. AreSummed g image n c.loop-block.doubts) all (c.loop-block.invariant image size seen))
