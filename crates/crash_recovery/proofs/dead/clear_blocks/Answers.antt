use Rattle.std.proofs.Common.{◌∙◌, sym, arith}
use Rattle.crash_recovery.proofs.BlockLemmas.{of_all, of_none}
use Rattle.crash_recovery.proofs.Kept.{keeps_failed, keeps_none, keeps_then}
use Rattle.crash_recovery.proofs.TakesLemmas.{takes_none}
use Rattle.crash_recovery.proofs.dead.clear_blocks.Goals as goal

pub loop-block-init : goal.loop-block-init
loop-block-init g c = record {
  takes = λ h. takes_none _ _;
  erased = λ h. of_none c.args.geometry.now c.args.dead.now _;
  keeps = keeps_none _ _ _ _;
}

pub returns-clause-erased : goal.returns-clause-erased
returns-clause-erased g c h = of_all c.args.geometry.now c.args.dead.now c.loop-block.block _ (c.loop-block.invariant.keeps.geometry ∙ c.requires.geometry) (omega (arith, c.loop-block-test.false, c.blocks-block-end.ensures)) (c.loop-block.invariant.erased h)

pub clear_block-requires-clause-geometry : goal.clear_block-requires-clause-geometry
clear_block-requires-clause-geometry g c = c.loop-block.invariant.keeps.geometry ∙ c.requires.geometry

pub clear_block-requires-clause-images : goal.clear_block-requires-clause-images
clear_block-requires-clause-images g c h =
    let loop = c.loop-block.invariant in
    (loop.takes (sym loop.keeps.as_honest ∙ h)).whole (c.requires.images (sym loop.keeps.as_honest ∙ h))

pub returns-in_err-clear_block-clause-keeps : goal.returns-in_err-clear_block-clause-keeps
returns-in_err-clear_block-clause-keeps g c =
    keeps_failed _ _ _ _ _ c.from_residual.result c.from_residual.ensures.0 (keeps_then _ _ _ _ _ _ _ c.loop-block.invariant.keeps c.in_err-clear_block.ensures.keeps)

pub returns-clause-keeps : goal.returns-clause-keeps
returns-clause-keeps g c = c.loop-block.invariant.keeps
