use Rattle.std.proofs.Common.{◌∙◌, ap, sym}
use Rattle.page_layout.specs.Raw.{raw_image}
use Rattle.page_layout.proofs.RawLemmas.{raw_bytes-raw_image}
use Rattle.nand_die.proofs.chip.Chip.image_into.Goals as goal

pub returns-clause-bytes : goal.returns-clause-bytes
returns-clause-bytes c =
    let i = c.self.inside in
    rw (← c.self.view_is) (c.copy_from_slice.ensures.after ∙ (c.as_slice.ensures.value ∙ sym (raw_bytes-raw_image i.geometry i.bytes.items c.self.invariant.raw)))

pub returns-clause-pages : goal.returns-clause-pages
returns-clause-pages c =
    let i = c.self.inside in
    rw (← c.self.view_is) (ap (raw_image i.geometry) (c.copy_from_slice.ensures.after ∙ c.as_slice.ensures.value))
