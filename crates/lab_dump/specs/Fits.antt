-- The geometries that fit a dump, and their order.
use Rattle.std.specs.Prelude.{ℕ, ◌+◌, ◌-◌, ◌/◌, ◌<◌, ◌≤◌, ◌==◌, ◌&&◌, nat_lt, min, max, if◌then◌else◌, List, [], ◌∷◌, All, length, ◌*◌}
use Rattle.std.specs.List.{flat_map, range_with_len}
use Rattle.std.specs.declared.cmp.Ordering.{Ordering}
use Rattle.std.specs.Ordering.{nat_cmp, ordering_then}
use Rattle.page_layout.specs.Limits.{IsWithinLimits}
use Rattle.lab_dump.specs.declared.fit.Fit.{Fit}
use Rattle.lab_dump.specs.declared.fit.TableSays.{TableSays}
use Rattle.lab_dump.specs.declared.fit.TableSays.TheVariants.{Agrees, Short, Silent, Differs}
use Rattle.lab_dump.specs.declared.sample.Sample.{Sample}
use Rattle.lab_dump.specs.declared.told.PagesTold.{PagesTold}
use Rattle.lab_dump.specs.Sample.{sample_of}
use Rattle.lab_dump.specs.Told.{pages_told_of}
use Rattle.lab_dump.specs.Shape.{data_sizes, page_counts, rows_in_size, is_shape, has_shape}

-- ---- one geometry

-- what the table of blocks says of so many blocks, where it has words for as many as are told
abbrev pub table_says : ℕ → ℕ → TableSays
table_says blocks told = if told == 0 then Silent else (if told == blocks then Agrees else (if nat_lt blocks told then Short else Differs))

-- the pages of the blocks that a dump of so many blocks lacks, where so many are told, of which a die has at most 4096
abbrev pub missing_pages : ℕ → ℕ → ℕ → ℕ
missing_pages blocks pages told = (min told 4096 - blocks) * pages

-- the sectors of a geometry of which at least so many are told: as many, within a die's limits
abbrev pub sectors_from : ℕ → ℕ
sectors_from told = min (max told 1) 1048576

-- a geometry with what the dump says for it
abbrev pub fit_of : ℕ → ℕ → ℕ → ℕ → Sample → PagesTold → Fit
fit_of data_bytes spare_bytes pages blocks sample told = record {
  sound = record { 0 = sample.sound };
  table = table_says blocks told.blocks;
  missing = missing_pages blocks pages told.blocks;
  unsound_bytes = sample.unsound * (data_bytes + spare_bytes);
  data_bytes = data_bytes;
  spare_bytes = spare_bytes;
  pages = pages;
  blocks = blocks;
  sectors = sectors_from told.sectors;
  looked = sample.looked;
  unsound = sample.unsound;
  blocks_told = told.blocks;
  sectors_told = told.sectors;
}

-- ---- all that fit

-- the one with such areas and so many pages in a block, if so many bytes are whole blocks of it
abbrev pub shape_fits : ℕ → ℕ → ℕ → Sample → PagesTold → ℕ → List Fit
shape_fits size data_bytes spare_bytes sample told pages =
    if is_shape size data_bytes spare_bytes pages then fit_of data_bytes spare_bytes pages (rows_in_size size data_bytes spare_bytes / pages) sample told ∷ [] else []

-- those with such areas: none where no page that is looked at is sound
unfoldable pub area_fits : List ℕ → ℕ → ℕ → List Fit
area_fits all data_bytes spare_bytes =
    let rows = rows_in_size (length all) data_bytes spare_bytes in
    let sample = sample_of data_bytes spare_bytes rows all in
    let told = pages_told_of data_bytes spare_bytes rows all in
    if has_shape (length all) data_bytes spare_bytes && nat_lt 0 sample.sound then flat_map (shape_fits (length all) data_bytes spare_bytes sample told) page_counts else []

-- those with a data area of so many bytes: a spare area has 32 to 256
unfoldable pub data_fits : List ℕ → ℕ → List Fit
data_fits all data_bytes = flat_map (area_fits all data_bytes) (range_with_len 32 225)

-- all that fit
unfoldable pub fits_of : List ℕ → List Fit
fits_of all = flat_map (data_fits all) data_sizes

-- ---- their order

-- agreeing comes before having words for more blocks, that before saying nothing, and that before having words for fewer
abbrev pub table_place : TableSays → ℕ
table_place Agrees = 0
table_place Short = 1
table_place Silent = 2
table_place Differs = 3

-- Which of two comes first: the one with more sound pages, then the one that the table agrees to, then the one with fewer missing pages, then the
-- one with fewer bytes in unsound pages, then the one with the smaller numbers.
abbrev pub rank : Fit → Fit → Ordering
rank x y =
    ordering_then (nat_cmp y.sound.0 x.sound.0) (ordering_then (nat_cmp (table_place x.table) (table_place y.table)) (ordering_then (nat_cmp x.missing y.missing) (ordering_then (nat_cmp x.unsound_bytes y.unsound_bytes)
    (ordering_then (nat_cmp x.data_bytes y.data_bytes) (ordering_then (nat_cmp x.spare_bytes y.spare_bytes) (ordering_then (nat_cmp x.pages y.pages)
    (ordering_then (nat_cmp x.blocks y.blocks) (ordering_then (nat_cmp x.sectors y.sectors) (ordering_then (nat_cmp x.looked y.looked)
    (ordering_then (nat_cmp x.unsound y.unsound) (ordering_then (nat_cmp x.blocks_told y.blocks_told) (nat_cmp x.sectors_told y.sectors_told))))))))))))

-- ---- whatever the dump gives

-- the five numbers are those of a die, and some pages that were looked at are sound
pub record IsPossible (f : Fit) : Type 0 where
  pub limits : IsWithinLimits f.data_bytes f.spare_bytes f.pages f.blocks f.sectors
  pub some_sound : 0 < f.sound.0
  pub looked : f.sound.0 + f.unsound ≤ f.looked

-- at most so many were added, each of them possible
pub record AddsFits (most : ℕ) (old new : List Fit) : Type 0 where
  pub few : length new ≤ length old + most
  pub possible : All IsPossible old → All IsPossible new
