-- The page of a row in two images, and its mark.
use Rattle.std.proofs.Common.{◌≡◌, inl, inr, ◌<◌, ◌/◌, ◌%◌, ℕ, length, get_or, slice_get, Some, None, sym, ap, ◌∙◌, arith}
use Rattle.std.proofs.lemmas.Bool.{cases_lt}
use Rattle.std.proofs.lemmas.List.{get_or_past}
use Rattle.std.proofs.lemmas.Nat.{div-add-mod', mod_below}
use Rattle.std.proofs.lemmas.Option.{get_or_from_slice_get, slice_get-get_or, slice_get_past}
use Rattle.page_layout.specs.declared.geometry.Geometry.{Geometry}
use Rattle.page_layout.specs.declared.record.Record.{Record}
use Rattle.page_layout.specs.Page.{Image}
use Rattle.page_layout.specs.Flash.{no_page}
use Rattle.page_layout.specs.Sound.{record_of}
use Rattle.page_layout.specs.Array.{marks}
use Rattle.page_layout.specs.Change.{IsUnsoundAt}
use Rattle.page_layout.proofs.ArrayLemmas.{length-marks, mark-page, unsound_at}
use Rattle.file_die.specs.Store.{page_in}
use Rattle.crash_recovery.specs.Torn.{row_in}

-- a row of two images of one length has the same page in both, in either word for it
pub same_at : (a b : Image) (row : ℕ) → length a ≡ length b → page_in a row ≡ page_in b row → slice_get a row ≡ slice_get b row
same_at a b row long same = elim (cases_lt row (length a)) [
  | inl within ↦ slice_get-get_or a row no_page within ∙ (ap Some same ∙ sym (slice_get-get_or b row no_page (omega (arith, long, within))))
  | inr past ↦ slice_get_past a row past ∙ sym (slice_get_past b row (omega (arith, long, past)))
]

pub page_at_same : (a b : Image) (row : ℕ) → length a ≡ length b → slice_get a row ≡ slice_get b row → page_in a row ≡ page_in b row
page_at_same a b row long same = elim (cases_lt row (length a)) [
  | inl within ↦ sym (get_or_from_slice_get b row (page_in a row) no_page (sym same ∙ slice_get-get_or a row no_page within))
  | inr past ↦ get_or_past a row no_page past ∙ sym (get_or_past b row no_page (omega (arith, long, past)))
]

-- a row of a page without a record has no mark
pub unsound_in : (image : Image) (row : ℕ) → record_of (page_in image row) ≡ None → IsUnsoundAt image row
unsound_in image row none = elim (cases_lt row (length image)) [
  | inl within ↦ unsound_at image row (page_in image row) (slice_get-get_or image row no_page within) none
  | inr past ↦ get_or_past (marks image) row None (omega (arith, length-marks image, past))
]

-- the mark of a row of the image is its page's record
pub mark_in : (image : Image) (row : ℕ) → row < length image → get_or (marks image) row None ≡ record_of (page_in image row)
mark_in image row within = mark-page image row (page_in image row) (slice_get-get_or image row no_page within)

pub mark_within : (image : Image) (row : ℕ) (r : Record) → get_or (marks image) row None ≡ Some r → row < length image
mark_within image row r has = elim (cases_lt row (length image)) [
  | inl within ↦ within
  | inr past ↦ absurd (let none : get_or (marks image) row None ≡ None = get_or_past (marks image) row None (omega (arith, length-marks image, past)) in let clash : None ≡ Some r = sym none ∙ has in cc)
]

-- a row as a page of its block
pub row_split : (g : Geometry) (row : ℕ) → row_in g (row / g.pages) (row % g.pages) ≡ row
row_split g row = div-add-mod' row g.pages

pub page_below : (g : Geometry) (row : ℕ) → row % g.pages < g.pages
page_below g row = mod_below row g.pages (omega (arith, g.limits.page_count.least))
