use Rattle.std.proofs.Common.{◌∙◌, ◌+◌, ◌/◌, ap, arith, refl}
use Rattle.lab_dump.specs.declared.said.SaidPage.{SaidPage}
use Rattle.lab_dump.proofs.ConcludeLemmas.{legible_all, legible_more}
use Rattle.lab_dump.proofs.concluding.count_legible.Goals as goal

pub loop-i-init : goal.loop-i-init
loop-i-init c = record { few = omega arith; counted = λ image size seen. refl }

pub loop-i-preserved : goal.loop-i-preserved
loop-i-preserved c = record {
  few = omega (arith, c.loop-i.invariant.few, c.one_open-legible.ensures.small);
  counted = λ image size seen.
      let g = c.args.geometry.now in
      let said = c.args.doubting.now.said.items in
      ap (λ k. c.loop-i.legible + k) c.one_open-legible.ensures.is
      ∙ legible_more g image said c.loop-i.i c.index.result.now c.split_row-block.result.0 c.excuse_at.result c.loop-i.legible
      (omega (arith, c.loop-i-test.true, c.len-i-end.ensures))
      (c.split_row-block.ensures.block_is ∙ ap (λ (y : SaidPage). y.row / g.pages) c.index.ensures)
      (c.excuse_at.ensures image size seen) (c.loop-i.invariant.counted image size seen);
}

pub returns : goal.returns
returns c = λ image size seen is.
    legible_all c.args.geometry.now image c.args.doubting.now.said.items c.loop-i.i c.loop-i.legible size (omega (arith, c.loop-i-test.false, c.len-i-end.ensures)) is (c.loop-i.invariant.counted image size seen)
