-- What a dump leaves open of its array: the pages that may have been the newest of a sector, and the sectors that the geometry leaves out.
use Rattle.std.specs.Prelude.{◌≡◌, ◌↔◌, ℕ, ◌+◌, ◌-◌, ◌/◌, ◌<◌, ◌==◌, ◌&&◌, nat_lt, not, Bool, true, false, length, count_by, slice_get, Option, Some, None}
use Rattle.std.specs.List.{list_any, range_with_len}
use Rattle.page_layout.specs.declared.geometry.Geometry.{Geometry}
use Rattle.page_layout.specs.declared.record.Record.{Record}
use Rattle.page_layout.specs.declared.record.Key.{Key}
use Rattle.page_layout.specs.declared.record.Key.TheVariants.{Sector, Translation, Table}
use Rattle.page_layout.specs.Page.{Page, Image}
use Rattle.page_layout.specs.Sound.{record_of, is_erased_page}
use Rattle.page_layout.specs.Key.{key_of}
use Rattle.page_layout.specs.Block.{is_broken, is_programmed}
use Rattle.lab_dump.specs.declared.doubts.Doubts.{Doubts}
use Rattle.image_check.specs.Blocks.{is_factory}
use Rattle.lab_dump.specs.Said.{said_below}
use Rattle.lab_dump.specs.Bad.{is_excused, is_rewritten}

-- ---- holes

-- whether the row has a page that passes a test
abbrev pub has_page : (Page → Bool) → Option Page → Bool
has_page test None = false
has_page test (Some p) = test p

-- whether the row's page is as an erase leaves it
abbrev pub is_erased_at : Image → ℕ → Bool
is_erased_at image row = has_page is_erased_page (slice_get image row)

-- whether it has a page that is not
abbrev pub is_programmed_at : Image → ℕ → Bool
is_programmed_at image row = has_page is_programmed (slice_get image row)

-- The row's page is erased, and one behind it in its block is not. A block is programmed in order, so it was lost.
pub record IsHole (g : Geometry) (image : Image) (row : ℕ) : Type 0 where
  pub erased : is_erased_at image row ≡ true
  pub later : ℕ
  pub behind : row < later
  pub same_block : later / g.pages ≡ row / g.pages
  pub programmed : is_programmed_at image later ≡ true

-- whether a row stands behind another one in its block, and has a page that is not erased
abbrev pub shows_hole : Geometry → Image → ℕ → ℕ → Bool
shows_hole g image row later = nat_lt row later && ((later / g.pages == row / g.pages) && is_programmed_at image later)

-- whether a row is a hole that the first rows show
abbrev pub is_hole_below : Geometry → Image → ℕ → ℕ → Bool
is_hole_below g image rows row = is_erased_at image row && list_any (shows_hole g image row) (range_with_len 0 rows)

-- Whether a row is a hole.
-- Law: just where its page is erased and one behind it in its block is not (`HoleLaw`).
unfoldable pub is_hole : Geometry → Image → ℕ → Bool
is_hole g image row = is_hole_below g image (length image) row

-- how many rows are holes
unfoldable pub holes_of : Geometry → Image → ℕ
holes_of g image = count_by (is_hole g image) (range_with_len 0 (length image))

-- ---- sectors that the geometry leaves out

-- whether a key is a sector at or past the number of sectors
abbrev pub is_past : Geometry → Key → Bool
is_past g (Sector n) = not (nat_lt n g.sectors)
is_past g (Translation t) = false
is_past g (Table u) = false

-- whether there is a record, and it is of such a sector
abbrev pub is_record_past : Geometry → Option Record → Bool
is_record_past g None = false
is_record_past g (Some r) = is_past g (key_of r)

-- ---- together

-- how many rows pass a test that are of blocks which pass another one
unfoldable pub rows_passing : Geometry → Image → (ℕ → Bool) → (ℕ → Bool) → ℕ
rows_passing g image test block = count_by (λ row. test row && block (row / g.pages)) (range_with_len 0 (length image))

-- whether the row's page is neither erased nor sound
abbrev pub is_unsound_at : Image → ℕ → Bool
is_unsound_at image row = has_page is_broken (slice_get image row)

-- how many rows of blocks that pass a test are so, or are holes
abbrev pub doubtful_of : Geometry → Image → (ℕ → Bool) → ℕ
doubtful_of g image block = rows_passing g image (is_unsound_at image) block + rows_passing g image (is_hole g image) block

-- how many pages are neither erased nor sound, how many are holes, how many of both stand in bad blocks whose pages leave nothing open, by why they
-- do, and how many are sound and of a sector that the geometry leaves out
unfoldable pub doubts_of : Geometry → Image → Doubts
doubts_of g image = record {
  unsound = rows_passing g image (is_unsound_at image) (λ b. not (is_excused g image b));
  holes = rows_passing g image (is_hole g image) (λ b. not (is_excused g image b));
  factory = doubtful_of g image (is_factory g image);
  rewritten = doubtful_of g image (is_rewritten g image);
  outside = count_by (λ p. is_record_past g (record_of p)) image;
}

-- the pages that may each have been the newest of one sector
abbrev pub most_older : Doubts → ℕ
most_older d = d.unsound + d.holes

-- how many of the pages counted as unsound say something
unfoldable pub legible_of : Geometry → Image → ℕ
legible_of g image = count_by (λ x. not (is_excused g image (x.row / g.pages))) (said_below g image (length image))

-- those of them that say nothing, where so many do, and the holes
abbrev pub most_others : Doubts → ℕ → ℕ
most_others d legible = d.unsound - legible + d.holes

-- ---- law

-- A row is told as a hole just where it is one.
abbrev pub HoleLaw : Type 0
HoleLaw = (g : Geometry) (image : Image) (row : ℕ) → (is_hole g image row ≡ true) ↔ IsHole g image row

-- Each page that is neither erased nor sound, and each hole, is told once: as one that may have been the newest of a sector, or as one of a block
-- that is excused.
abbrev pub ToldOnceLaw : Type 0
ToldOnceLaw = (g : Geometry) (image : Image) → (d : Doubts) → d ≡ doubts_of g image → d.unsound + d.holes + d.factory + d.rewritten ≡ count_by is_broken image + holes_of g image
