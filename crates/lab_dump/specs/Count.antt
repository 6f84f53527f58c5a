-- How many pages of an image are of each sort.
use Rattle.std.specs.Prelude.{◌≡◌, ℕ, ◌+◌, ◌-◌, ◌/◌, ◌^◌, ◌<◌, ◌≤◌, ◌==◌, ◌&&◌, not, nat_lt, if◌then◌else◌, Bool, false, List, length, get_or, count_by, slice_get, Option, Some, None, is_some}
use Rattle.std.specs.List.{range_with_len}
use Rattle.page_layout.specs.declared.geometry.Geometry.{Geometry}
use Rattle.page_layout.specs.declared.record.Record.{Record}
use Rattle.page_layout.specs.declared.record.Kind.{Kind}
use Rattle.page_layout.specs.declared.record.Kind.TheVariants as kind
use Rattle.page_layout.specs.declared.record.Key.{Key}
use Rattle.page_layout.specs.declared.record.Key.TheVariants.{Sector, Translation, Table}
use Rattle.page_layout.specs.Geometry.{translation_pages, table_pages}
use Rattle.page_layout.specs.Page.{Page, Image}
use Rattle.page_layout.specs.Sound.{record_of, is_erased_page, code_of_kind}
use Rattle.page_layout.specs.Key.{key_of}
use Rattle.page_layout.specs.Block.{is_broken}
use Rattle.page_layout.specs.Change.{one_if}
use Rattle.lab_dump.specs.declared.counts.PageCounts.{PageCounts}

-- ---- sorts of records

-- there is a record, of this kind
abbrev pub is_of_kind : Kind → Option Record → Bool
is_of_kind k None = false
is_of_kind k (Some r) = code_of_kind r.kind == code_of_kind k

-- the key's number is below the number of sectors, of translation pages or of table pages
abbrev pub is_in_range : Geometry → Key → Bool
is_in_range g (Sector n) = nat_lt n g.sectors
is_in_range g (Translation t) = nat_lt t (translation_pages g)
is_in_range g (Table u) = nat_lt u (table_pages g)

-- there is a record, and its number is out of range
abbrev pub is_outside : Geometry → Option Record → Bool
is_outside g None = false
is_outside g (Some r) = not (is_in_range g (key_of r))

-- there is a record, and no sequence that may be given out follows its own: it is not below 2 ^ 64 - 1
abbrev pub is_last : Option Record → Bool
is_last None = false
is_last (Some r) = not (nat_lt r.sequence (2 ^ 64 - 1))

-- ---- counts

-- how many pages are sound and of each kind, how many erased, how many neither, and of the sound ones how many have a number out of range and
-- how many the last sequence
unfoldable pub page_counts_of : Geometry → Image → PageCounts
page_counts_of g image = record {
  sectors = count_by (λ p. is_of_kind kind.Sector (record_of p)) image;
  trims = count_by (λ p. is_of_kind kind.Trim (record_of p)) image;
  translations = count_by (λ p. is_of_kind kind.Translation (record_of p)) image;
  tables = count_by (λ p. is_of_kind kind.Table (record_of p)) image;
  erased = count_by is_erased_page image;
  unsound = count_by is_broken image;
  outside = count_by (λ p. is_outside g (record_of p)) image;
  last = count_by (λ p. is_last (record_of p)) image;
}

abbrev pub no_counts : PageCounts
no_counts = record { sectors = 0; trims = 0; translations = 0; tables = 0; erased = 0; unsound = 0; outside = 0; last = 0 }

-- the counts with one page more, by its record and whether it is erased
abbrev pub with_page_counted : Geometry → PageCounts → Option Record → Bool → PageCounts
with_page_counted g c found erased = record {
  sectors = c.sectors + one_if (is_of_kind kind.Sector found);
  trims = c.trims + one_if (is_of_kind kind.Trim found);
  translations = c.translations + one_if (is_of_kind kind.Translation found);
  tables = c.tables + one_if (is_of_kind kind.Table found);
  erased = c.erased + one_if erased;
  unsound = c.unsound + one_if (not erased && not (is_some found));
  outside = c.outside + one_if (is_outside g found);
  last = c.last + one_if (is_last found);
}

-- none is past so many
pub record AreFew (rows : ℕ) (c : PageCounts) : Type 0 where
  pub sectors : c.sectors ≤ rows
  pub trims : c.trims ≤ rows
  pub translations : c.translations ≤ rows
  pub tables : c.tables ≤ rows
  pub erased : c.erased ≤ rows
  pub unsound : c.unsound ≤ rows
  pub outside : c.outside ≤ rows
  pub last : c.last ≤ rows

-- ---- by block

-- there is a page, and it is neither erased nor sound
abbrev pub is_broken_page : Option Page → Bool
is_broken_page None = false
is_broken_page (Some p) = is_broken p

-- the row is of the block, and its page is neither erased nor sound
abbrev pub is_unsound_in : Geometry → Image → ℕ → ℕ → Bool
is_unsound_in g image block row = (row / g.pages == block) && is_broken_page (slice_get image row)

-- how many of the first rows are so
unfoldable pub unsound_below : Geometry → Image → ℕ → ℕ → ℕ
unsound_below g image rows block = count_by (is_unsound_in g image block) (range_with_len 0 rows)

-- of each block how many
pub record HasUnsound (g : Geometry) (image : Image) (rows : ℕ) (items : List ℕ) : Type 0 where
  pub size : length items ≡ g.blocks
  pub at : (b : ℕ) → b < g.blocks → get_or items b 0 ≡ unsound_below g image rows b

-- how many pages of a block are neither erased nor sound
abbrev pub unsound_in : Geometry → Image → ℕ → ℕ
unsound_in g image block = unsound_below g image (length image) block

-- ---- laws

-- each page is of one sort, and one alone
abbrev pub SortsLaw : Type 0
SortsLaw = (g : Geometry) (image : Image) → (c : PageCounts) → c ≡ page_counts_of g image → c.sectors + c.trims + c.translations + c.tables + c.erased + c.unsound ≡ length image
