use Rattle.page_layout.proofs.NewestLemmas.{newest-is, newest_from, scan_tells}
use Rattle.page_layout.proofs.ArrayLemmas.{has_newest, sector_is, array_is}
use Rattle.page_layout.proofs.LiveLemmas.{key_once, key_never, live_sum}
use Rattle.page_layout.proofs.laws.image_laws.Goals as goal

pub returns-clause-newest : goal.returns-clause-newest
returns-clause-newest c = λ ms key row. (newest-is ms key row, newest_from ms key row)

pub returns-clause-scan : goal.returns-clause-scan
returns-clause-scan c = scan_tells

pub returns-clause-has_newest : goal.returns-clause-has_newest
returns-clause-has_newest c = has_newest

pub returns-clause-sector : goal.returns-clause-sector
returns-clause-sector c = sector_is

pub returns-clause-array : goal.returns-clause-array
returns-clause-array c = array_is

pub returns-clause-keys : goal.returns-clause-keys
returns-clause-keys c = key_once

pub returns-clause-no_other_key : goal.returns-clause-no_other_key
returns-clause-no_other_key c = key_never

pub returns-clause-live_sum : goal.returns-clause-live_sum
returns-clause-live_sum c = live_sum
