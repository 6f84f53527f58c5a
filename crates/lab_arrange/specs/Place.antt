-- Where the bytes of a die's pages stand in a dump that is not in order: a plain map of places.
use Rattle.std.specs.Prelude.{◌≡◌, ℕ, ◌+◌, ◌-◌, ◌*◌, ◌/◌, ◌%◌, ◌<◌, ◌≤◌, ◌==◌, nat_lt, if◌then◌else◌, Bool, true, false, List, length, slice_index, Option, Some, None}
use Rattle.std.specs.Option.{unwrap_or}
use Rattle.page_layout.specs.declared.geometry.Geometry.{Geometry}
use Rattle.page_layout.specs.Geometry.{row_count}
use Rattle.lab_dump.specs.Scan.{image_bytes}
use Rattle.lab_arrange.specs.declared.arrangement.Arrangement.{Arrangement}
use Rattle.lab_arrange.specs.declared.arrangement.Spares.{Spares}
use Rattle.lab_arrange.specs.declared.fitting.UnfitFault.{UnfitFault}
use Rattle.lab_arrange.specs.declared.fitting.UnfitFault.TheVariants as unfit
use Rattle.lab_arrange.specs.declared.arrangement.Spares.TheVariants.{Block, Die}

-- ---- two planes

-- The row in whose place the page of a row stands: with two planes the pages of blocks 2k and 2k + 1 stand in turns, page by page.
abbrev pub row_in_turns : ℕ → Bool → ℕ → ℕ
row_in_turns pages planes row = if planes then row / pages / 2 * (2 * pages) + (2 * (row % pages) + row / pages % 2) else row

-- ---- the areas

-- how many pages have all their areas of one sort together: one, those of a block, or all
abbrev pub run_of : Geometry → Option Spares → ℕ
run_of g None = 1
run_of g (Some Block) = g.pages
run_of g (Some Die) = row_count g

-- where in a run of n pages a byte of page i stands: all data areas, and then all spare areas, or the other way round
abbrev pub in_run : (n d s : ℕ) → (first : Bool) → (i column : ℕ) → ℕ
in_run n d s false i column = if nat_lt column d then i * d + column else n * d + (i * s + (column - d))
in_run n d s true i column = if nat_lt column d then n * s + (i * d + column) else i * s + (column - d)

-- the same of all runs, one behind another
abbrev pub run_place : (n d s : ℕ) → (first : Bool) → (row column : ℕ) → ℕ
run_place n d s first row column = row / n * (n * (d + s)) + in_run n d s first (row % n) column

-- ---- bytes swapped in pairs

-- the other byte of its pair
abbrev pub other_in_pair : ℕ → ℕ
other_in_pair place = if place % 2 == 0 then place + 1 else place - 1

abbrev pub swapped_place : Bool → ℕ → ℕ
swapped_place swapped place = if swapped then other_in_pair place else place

-- ---- the whole

-- how many bytes stand before the first page
abbrev pub header_length : Arrangement → ℕ
header_length a = unwrap_or a.header 0

-- where among the pages of the dump a byte of a page stands, whose areas are in order in their run
abbrev pub body_place : Geometry → Arrangement → (row column : ℕ) → ℕ
body_place g a row column = run_place (run_of g a.spares) g.data_bytes g.spare_bytes a.spare_first (row_in_turns g.pages a.planes row) column

-- THE BYTE OF THE DUMP that byte `column` of the page of a row is, its data area first
unfoldable pub place_in_dump : Geometry → Arrangement → (row column : ℕ) → ℕ
place_in_dump g a row column = header_length a + swapped_place a.swapped (body_place g a row column)

-- how many bytes a dump has of such a die
abbrev pub length_of : Geometry → Arrangement → ℕ
length_of g a = header_length a + image_bytes g + unwrap_or a.tail 0 - unwrap_or a.cut 0

-- a die has two planes where its blocks are pairs, and no more is cut off than its pages have
pub record IsFitting (g : Geometry) (a : Arrangement) : Type 0 where
  pub even : a.planes ≡ true → g.blocks % 2 ≡ 0
  pub cut : unwrap_or a.cut 0 ≤ image_bytes g

-- why a die does not stand so: the blocks are no pairs, or they are and more is cut off
abbrev pub IsUnfit : Geometry → Arrangement → UnfitFault → Type 0
IsUnfit g a unfit.OddBlocks = (a.planes ≡ true) × (g.blocks % 2 ≡ 1)
IsUnfit g a unfit.CutRange = (a.planes ≡ true → g.blocks % 2 ≡ 0) × (image_bytes g < unwrap_or a.cut 0)

-- ---- what a byte was

-- a byte with all bits inverted, or as it is
abbrev pub value_of : Bool → ℕ → ℕ
value_of inverted byte = if inverted then 255 - byte else byte

-- a byte of the dump as the die had it, where all its bits are inverted or not; past the end, where it was cut off, 00h
abbrev pub byte_at : Bool → List ℕ → ℕ → ℕ
byte_at inverted all place = if nat_lt place (length all) then value_of inverted (slice_index all place) else 0
