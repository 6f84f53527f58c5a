use Rattle.std.proofs.Common.{◌<◌, ◌∙◌, get_or, length, refl, sym, arith}
use Rattle.crash_recovery.proofs.BlockLemmas.{behind_all, behind_erased, behind_more, behind_none}
use Rattle.crash_recovery.proofs.Kept.{keeps_failed, keeps_none, keeps_then}
use Rattle.crash_recovery.proofs.TakesLemmas.{takes_none}
use Rattle.crash_recovery.proofs.cut.cut_blocks.Goals as goal

pub loop-block-init : goal.loop-block-init
loop-block-init g c = record {
  takes = λ h. takes_none _ _;
  erased = λ h. behind_none c.args.geometry.now c.args.cuts.now _;
  keeps = keeps_none _ _ _ _;
}

pub cut_block-requires-clause-geometry : goal.cut_block-requires-clause-geometry
cut_block-requires-clause-geometry g c = c.loop-block.invariant.keeps.geometry ∙ c.requires.geometry

pub cut_block-requires-clause-images : goal.cut_block-requires-clause-images
cut_block-requires-clause-images g c h =
    let loop = c.loop-block.invariant in
    (loop.takes (sym loop.keeps.as_honest ∙ h)).whole (c.requires.images (sym loop.keeps.as_honest ∙ h))

pub returns-in_err-cut_block-clause-keeps : goal.returns-in_err-cut_block-clause-keeps
returns-in_err-cut_block-clause-keeps g c =
    keeps_failed _ _ _ _ _ c.from_residual.result c.from_residual.ensures.0 (keeps_then _ _ _ _ _ _ _ c.loop-block.invariant.keeps c.in_err-cut_block.ensures.keeps)

pub returns-clause-keeps : goal.returns-clause-keeps
returns-clause-keeps g c = c.loop-block.invariant.keeps

pub returns-in_err-cut_block-clause-takes : goal.returns-in_err-cut_block-clause-takes
returns-in_err-cut_block-clause-takes g c h =
    let loop = c.loop-block.invariant in
    let k = c.loop-block.block in
    let within : k < length c.args.cuts.now = omega (arith, c.requires.blocks, c.loop-block-test.true, c.blocks-block-end.ensures) in
    behind_more c.args.geometry.now c.args.cuts.now k (get_or c.args.cuts.now k 0) _ _ _ within refl (loop.takes h) (c.cut_block.ensures.takes (loop.keeps.as_honest ∙ h))

pub loop-block-preserved : goal.loop-block-preserved
loop-block-preserved g c =
    let loop = c.loop-block.invariant in
    let k = c.loop-block.block in
    let within : k < length c.args.cuts.now = omega (arith, c.requires.blocks, c.loop-block-test.true, c.blocks-block-end.ensures) in
    record {
      takes = λ h. behind_more c.args.geometry.now c.args.cuts.now k (get_or c.args.cuts.now k 0) _ _ _ within refl (loop.takes h) (c.cut_block.ensures.takes (loop.keeps.as_honest ∙ h));
      erased = λ h. behind_erased c.args.geometry.now c.args.cuts.now k (get_or c.args.cuts.now k 0) _ _ refl (c.cut_block.ensures.takes (loop.keeps.as_honest ∙ h)) (loop.erased h) (c.in_ok-cut_block.ensures.erased (loop.keeps.as_honest ∙ h));
      keeps = keeps_then _ _ _ _ _ _ _ loop.keeps c.in_ok-cut_block.ensures.keeps;
    }

pub returns-clause-erased : goal.returns-clause-erased
returns-clause-erased g c h = behind_all c.args.geometry.now c.args.cuts.now c.loop-block.block _ (omega (arith, c.requires.blocks, c.loop-block-test.false, c.blocks-block-end.ensures)) (c.loop-block.invariant.erased h)
