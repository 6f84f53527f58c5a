use Rattle.page_layout.proofs.RawLemmas.{raw_image_whole, raw_bytes-raw_image, raw_image-raw_bytes}
use Rattle.page_layout.proofs.laws.raw_laws.Goals as goal

pub returns-clause-bytes : goal.returns-clause-bytes
returns-clause-bytes c = raw_bytes-raw_image

pub returns-clause-image : goal.returns-clause-image
returns-clause-image c = λ g bytes raw. raw_image_whole g bytes raw.whole raw.fits

pub returns-clause-again : goal.returns-clause-again
returns-clause-again c = raw_image-raw_bytes
