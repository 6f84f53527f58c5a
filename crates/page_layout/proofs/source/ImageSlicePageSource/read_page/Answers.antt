use Rattle.page_layout.proofs.RawLemmas.{raw_image_whole}
use Rattle.page_layout.proofs.source.ImageSlicePageSource.read_page.Goals as goal

pub returns-clause-whole : goal.returns-clause-whole
returns-clause-whole c = raw_image_whole c.self.inside.geometry c.self.inside.bytes.now c.self.invariant.whole c.self.invariant.fits
