-- What the pages of one block show by themselves: its write pointer, its wear, and whether it must be bad.
use Rattle.std.specs.Prelude.{◌≡◌, ◌⊎◌, ◌<◌, ◌≤◌, ℕ, ◌+◌, ◌*◌, ◌&&◌, max, not, Bool, true, false, if◌then◌else◌, List, [], ◌∷◌, count_by, slice_get}
use Rattle.std.specs.Prelude.{slice_range, Option, Some, None, is_some}
use Rattle.std.specs.List.{list_any, fold}
use Rattle.page_layout.specs.declared.record.Record.{Record}
use Rattle.page_layout.specs.declared.record.Kind.{Kind}
use Rattle.page_layout.specs.declared.record.Kind.TheVariants as kind
use Rattle.page_layout.specs.declared.geometry.Geometry.{Geometry}
use Rattle.page_layout.specs.Page.{Page, Image}
use Rattle.page_layout.specs.Sound.{record_of, is_erased_page}

-- the pages of a block, in order
abbrev pub block_pages : Geometry → Image → ℕ → List Page
block_pages g image block = slice_range image (block * g.pages) (block * g.pages + g.pages)

-- the page isn't erased
abbrev pub is_programmed : Page → Bool
is_programmed p = not (is_erased_page p)

-- the page is neither erased nor sound
abbrev pub is_broken : Page → Bool
is_broken p = not (is_erased_page p) && not (is_some (record_of p))

-- a page that isn't erased comes after an erased one
pub record HasGap (ps : List Page) : Type 0 where
  pub early : ℕ
  pub late : ℕ
  pub order : early < late
  pub erased : Page
  pub programmed : Page
  pub erased_at : slice_get ps early ≡ Some erased
  pub programmed_at : slice_get ps late ≡ Some programmed
  pub is_erased : is_erased_page erased ≡ true
  pub is_not : is_erased_page programmed ≡ false

-- whether there is such a page
unfoldable pub has_gap : List Page → Bool
has_gap [] = false
has_gap (p ∷ ps) = if is_erased_page p then list_any is_programmed ps else has_gap ps

-- one past the last page that isn't erased, or 0
unfoldable pub past_last : List Page → ℕ
past_last [] = 0
past_last (p ∷ ps) = if list_any is_programmed (p ∷ ps) then past_last ps + 1 else 0

-- how many pages aren't erased: of a block without a gap, the page from which on all are erased
abbrev pub written : List Page → ℕ
written ps = count_by is_programmed ps

-- the wear field of a page's record, or 0
abbrev pub wear_in : Option Record → ℕ
wear_in None = 0
wear_in (Some r) = r.wear

-- no sound page's wear field is greater, and some sound page has it, or it is 0
pub record IsTopWear (ps : List Page) (wear : ℕ) : Type 0 where
  pub most : (k : ℕ) (p : Page) (r : Record) → slice_get ps k ≡ Some p → record_of p ≡ Some r → r.wear ≤ wear
  pub met : (wear ≡ 0) ⊎ ((k : ℕ) × (p : Page) × (r : Record) × (slice_get ps k ≡ Some p) × (record_of p ≡ Some r) × (r.wear ≡ wear))

-- the greatest wear field of the sound pages, or 0
abbrev pub top_wear : List Page → ℕ
top_wear ps = fold (λ w p. max w (wear_in (record_of p))) 0 ps

-- the record of a page, if there is a sound one
abbrev pub record_of_page : Option Page → Option Record
record_of_page None = None
record_of_page (Some p) = record_of p

-- the kind of a page of a sector, which is one of the data stream
abbrev pub is_data_kind : Kind → Bool
is_data_kind kind.Sector = true
is_data_kind kind.Trim = true
is_data_kind kind.Translation = false
is_data_kind kind.Table = false

-- there is a record of such a kind
abbrev pub has_data_kind : Option Record → Bool
has_data_kind None = false
has_data_kind (Some r) = is_data_kind r.kind

-- page 0 is a sector's data or a trim
abbrev pub begins_data : List Page → Bool
begins_data ps = has_data_kind (record_of_page (slice_get ps 0))

-- the sequence of a page's record, or 0
abbrev pub sequence_in : Option Record → ℕ
sequence_in None = 0
sequence_in (Some r) = r.sequence

-- the sequence of the last page that isn't erased, or 0
abbrev pub last_sequence : List Page → ℕ
last_sequence ps = fold (λ s p. if is_erased_page p then s else sequence_in (record_of p)) 0 ps
