use Rattle.page_layout.proofs.RawLemmas.{raw_image_whole}
use Rattle.nand_die.proofs.chip.Chip.give_up.Goals as goal

pub returns-clause-whole : goal.returns-clause-whole
returns-clause-whole c = raw_image_whole c.self.inside.geometry c.self.inside.bytes.items c.self.invariant.raw.whole c.self.invariant.raw.fits
