-- What the definitions come to, each law as one statement. A public function with an empty body has it as its contract.
use Rattle.std.specs.Prelude.{◌≡◌, ◌↔◌, ◌⊎◌, ℕ, ◌+◌, ◌*◌, ◌<◌, ◌≤◌, min, true, List, length, slice_get, Some, ◌/◌, ◌==◌, ◌&&◌, Bool, count_by}
use Rattle.std.specs.List.{Contains}
use Rattle.page_layout.specs.declared.geometry.Geometry.{Geometry}
use Rattle.page_layout.specs.declared.record.Record.{Record}
use Rattle.page_layout.specs.declared.record.Key.{Key}
use Rattle.page_layout.specs.declared.record.Key.TheVariants.{Sector, Translation, Table}
use Rattle.page_layout.specs.declared.record.Kind.TheVariants as kind
use Rattle.page_layout.specs.Geometry.{row_count, page_bytes}
use Rattle.page_layout.specs.Limits.{IsWithinLimits}
use Rattle.page_layout.specs.Key.{key_of}
use Rattle.page_layout.specs.Live.{IsKeyOf}
use Rattle.page_layout.specs.Raw.{raw_image}
use Rattle.bad_blocks.specs.TablePage.{IsWellFormed}
use Rattle.page_layout.specs.declared.look.PageLook.TheVariants.{Sound}
use Rattle.lab_dump.specs.declared.fit.Fit.{Fit}
use Rattle.lab_dump.specs.declared.told.PagesTold.{PagesTold}
use Rattle.lab_dump.specs.Pages.{dump_page_at}
use Rattle.lab_dump.specs.Sample.{looked_count, looked_row, look_at, is_sound_look, sample_of}
use Rattle.lab_dump.specs.Told.{least_blocks_of, greatest_of_rows, pages_told_of}
use Rattle.std.specs.declared.cmp.Ordering.TheVariants.{Less}
use Rattle.lab_dump.specs.declared.fit.TableSays.TheVariants.{Short}
use Rattle.lab_dump.specs.Fits.{fit_of, fits_of, missing_pages, rank, table_says}

-- ---- which geometries fit

-- Its numbers are within a die's limits and come to as many bytes as the dump has; what is said for it is so; and some page that was looked at
-- is sound.
pub record IsFitOfDump (all : List ℕ) (f : Fit) : Type 0 where
  pub limits : IsWithinLimits f.data_bytes f.spare_bytes f.pages f.blocks f.sectors
  pub whole : length all ≡ f.blocks * f.pages * (f.data_bytes + f.spare_bytes)
  pub evidence : f ≡ fit_of f.data_bytes f.spare_bytes f.pages f.blocks (sample_of f.data_bytes f.spare_bytes (f.blocks * f.pages) all) (pages_told_of f.data_bytes f.spare_bytes (f.blocks * f.pages) all)
  pub some_sound : 0 < f.sound.0

-- those that fit are just these: none whose every page that was looked at is unsound
abbrev pub FitLaw : Type 0
FitLaw = (all : List ℕ) (f : Fit) → Contains (fits_of all) f ↔ IsFitOfDump all f

-- whether the areas have these sizes, and a block so many pages
abbrev pub has_numbers : ℕ → ℕ → ℕ → Fit → Bool
has_numbers data_bytes spare_bytes pages f = (f.data_bytes == data_bytes) && (f.spare_bytes == spare_bytes) && (f.pages == pages)

-- of those with such areas and so many pages in a block there is one at most: none is told twice
abbrev pub NoFitTwiceLaw : Type 0
NoFitTwiceLaw = (all : List ℕ) (data_bytes spare_bytes pages : ℕ) → count_by (has_numbers data_bytes spare_bytes pages) (fits_of all) ≤ 1

-- the numbers are those of this geometry, but for the sectors
pub record IsShapedAs (g : Geometry) (f : Fit) : Type 0 where
  pub data_is : f.data_bytes ≡ g.data_bytes
  pub spare_is : f.spare_bytes ≡ g.spare_bytes
  pub pages_is : f.pages ≡ g.pages
  pub blocks_is : f.blocks ≡ g.blocks

-- a die's own geometry fits its dump where a page of it that is looked at is sound
abbrev pub OwnGeometryLaw : Type 0
OwnGeometryLaw = (g : Geometry) (all : List ℕ) (place : ℕ) → length all ≡ row_count g * page_bytes g → place < looked_count (row_count g)
    → is_sound_look (look_at g.data_bytes g.spare_bytes all (looked_row (row_count g) place)) ≡ true → (f : Fit) × Contains (fits_of all) f × IsShapedAs g f

-- ---- a cut dump

-- the geometry is said to be too short just where the table has words for more blocks than it has, and a page is missing just then
abbrev pub ShortLaw : Type 0
ShortLaw = (blocks pages told : ℕ) → 0 < pages → blocks < 4096 → ((table_says blocks told ≡ Short) ↔ (blocks < told)) × ((0 < missing_pages blocks pages told) ↔ (blocks < told))

-- of two that are too short, with as many sound pages looked at, the one that lacks fewer pages comes first
abbrev pub FewerLaw : Type 0
FewerLaw = (x y : Fit) → x.sound.0 ≡ y.sound.0 → x.table ≡ Short → y.table ≡ Short → x.missing < y.missing → rank x y ≡ Less

-- ---- which pages are looked at

-- the page of a row is that of the raw image
abbrev pub PageLaw : Type 0
PageLaw = (g : Geometry) (all : List ℕ) (row : ℕ) → row < row_count g → slice_get (raw_image g all) row ≡ Some (dump_page_at g.data_bytes g.spare_bytes all row)

-- the rows that are looked at are rows of the dump
abbrev pub LookedLaw : Type 0
LookedLaw = (rows place : ℕ) → place < looked_count rows → looked_row rows place < rows

-- they rise, so none is looked at twice
abbrev pub LookedRiseLaw : Type 0
LookedRiseLaw = (rows place next : ℕ) → place < next → looked_row rows place < looked_row rows next

-- all are looked at where they are at most 4096
abbrev pub LookedAllLaw : Type 0
LookedAllLaw = (rows place : ℕ) → rows ≤ 4096 → looked_row rows place ≡ place

-- ---- what the pages tell

-- no row has a greater number than the greatest, and one has it unless it is 0
abbrev pub GreatestLaw : Type 0
GreatestLaw = (f : ℕ → ℕ) (rows : ℕ) → ((row : ℕ) → row < rows → f row ≤ greatest_of_rows f rows) × ((greatest_of_rows f rows ≡ 0) ⊎ ((row : ℕ) × (row < rows) × (f row ≡ greatest_of_rows f rows)))

-- What is told has room for what this is a page of, where a page has so many entries: for its sector, for the first sector of its translation
-- page, or for the blocks before its table page.
abbrev pub IsWithinTold : Key → ℕ → PagesTold → Type 0
IsWithinTold (Sector n) entries t = n < t.sectors
IsWithinTold (Translation n) entries t = n * entries < t.sectors
IsWithinTold (Table u) entries t = u * entries ≤ t.blocks

-- what so many rows tell has room for each sound page of them
abbrev pub TellsEachPageLaw : Type 0
TellsEachPageLaw = (data_bytes spare_bytes rows : ℕ) (all : List ℕ) (row : ℕ) (r : Record) → rows * (data_bytes + spare_bytes) ≤ length all → row < rows
    → look_at data_bytes spare_bytes all row ≡ Sound r → IsWithinTold (key_of r) (data_bytes / 4) (pages_told_of data_bytes spare_bytes rows all)

-- a die has at least the sectors that are told, where each sound page is of a sector, a translation page or a table page that it has
abbrev pub LowerLaw : Type 0
LowerLaw = (g : Geometry) (all : List ℕ) → ((row : ℕ) (r : Record) → row < row_count g → look_at g.data_bytes g.spare_bytes all row ≡ Sound r → IsKeyOf g (key_of r))
    → (pages_told_of g.data_bytes g.spare_bytes (row_count g) all).sectors ≤ g.sectors

-- a table page that is well formed for so many blocks tells of those up to its last entry, so the last table page tells all of them
abbrev pub TableLaw : Type 0
TableLaw = (entries blocks u : ℕ) (body : List ℕ) → 0 < entries → length body ≡ 4 * entries → u * entries ≤ blocks → IsWellFormed entries blocks u body
    → least_blocks_of kind.Table u body ≡ min (u * entries + entries) blocks
