use Rattle.std.proofs.Common.{◌≡◌, ◌∙◌, ap, arith, length}
use Rattle.std.specs.Prelude.{filter}
use Rattle.std.specs.List.{range_with_len}
use Rattle.disk_damage.specs.Look.{bad_numbers, has_bad_class_in}
use Rattle.disk_damage.proofs.NumberLemmas.{fails, is_least, is_less, passes}
use Rattle.disk_damage.proofs.look.bad_blocks.Goals.{then-class_of-ge-FACTORY+in_ok-add, else-class_of-ge-FACTORY}
use Rattle.disk_damage.proofs.look.bad_blocks.Goals as goal

pub loop-block-preserved : goal.loop-block-preserved
loop-block-preserved c =
    let blocks = c.args.certificate.now.blocks in
    let b = c.loop-block.block in
    elim c.if-class_of-ge-FACTORY.branch [
      | then-class_of-ge-FACTORY+in_ok-add w ↦ passes (has_bad_class_in blocks) b c.loop-block.blocks.items _ (is_least _ _ c.class_of.ensures w.if-class_of-ge-FACTORY.true) c.loop-block.invariant (ap (λ s. s.items) w.blocks-is ∙ w.in_ok-add.ensures)
      | else-class_of-ge-FACTORY w ↦ ap (λ s. s.items) w.blocks-is ∙ fails (has_bad_class_in blocks) b c.loop-block.blocks.items (is_less _ _ c.class_of.ensures w.if-class_of-ge-FACTORY.false) c.loop-block.invariant
    ]

pub returns : goal.returns
unfolding bad_numbers
returns c =
    let all : c.loop-block.block ≡ length c.args.certificate.now.blocks = omega (arith, c.loop-block-test.false, c.loop-block.auto.block-end, c.blocks-block-end.ensures, c.geometry.ensures.blocks) in
    c.loop-block.invariant ∙ ap (λ n. filter (has_bad_class_in c.args.certificate.now.blocks) (range_with_len 0 n)) all
