use Rattle.std.proofs.Common.{false, arith, ◌∙◌}
use Rattle.bad_blocks.specs.Marks.{is_marked}
use Rattle.bad_blocks.proofs.RangeLemmas.{map_range_from_places}
use Rattle.bad_blocks.proofs.scan.mark_blocks.Goals as goal

pub returns-clause-marks : goal.returns-clause-marks
returns-clause-marks g c = λ h.
    map_range_from_places (is_marked c.args.geometry.now (g.S.PageSource.view.flash c.args.source.now).image) c.args.geometry.now.blocks false c.loop-block.marks (c.loop-block.auto.marks ∙ c.requires.whole)
    (λ k l. c.loop-block.invariant.marks h k (omega (arith, l, c.blocks-block-end.ensures)))
