use Rattle.std.proofs.Common.{◌∙◌, ap}
use Rattle.page_layout.specs.Raw.{raw_image}
use Rattle.nand_die.proofs.MakeLemmas.{blank_new}
use Rattle.nand_die.proofs.chip.Chip.new.Goals as goal

pub marked_next_pages-requires-clause-erased : goal.marked_next_pages-requires-clause-erased
marked_next_pages-requires-clause-erased c =
    let g = c.args.geometry in
    ap (raw_image g) (c.deref_mut.ensures.value ∙ c.in_ok-bytes.ensures.ok) ∙ blank_new g c.image_length.result c.image_length.ensures
