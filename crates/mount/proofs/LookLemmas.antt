-- An erased page has no record.
use Rattle.std.proofs.Common.{◌≡◌, ℕ, true, false, List, ap}
use Rattle.std.specs.Prelude.{is_some}
use Rattle.page_layout.specs.Page.{page}
use Rattle.page_layout.specs.Sound.{record_of, is_erased_page}
use Rattle.page_layout.proofs.RecordLemmas.{erased_no_record}

pub erased_not_sound : (body spare : List ℕ) → is_erased_page (page body spare) ≡ true → is_some (record_of (page body spare)) ≡ false
erased_not_sound body spare erased = ap is_some (erased_no_record (page body spare) erased)
