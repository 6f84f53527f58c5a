-- What is known of the blocks of a die.
use Rattle.std.specs.Prelude.{◌≡◌, ℕ, ◌<◌, ◌≤◌, ◌==◌, ◌&&◌, ◌||◌, Bool, true, false, not, List, length, get_or, count_by, Option, Some, None}
use Rattle.std.specs.List.{range_with_len}
use Rattle.page_layout.specs.declared.geometry.Geometry.{Geometry}
use Rattle.bad_blocks.specs.declared.table.TableRow.{TableRow}
use Rattle.bad_blocks.specs.Table.{is_good_at}
use Rattle.allocation.specs.declared.fill.Fill.{Fill}
use Rattle.budget.specs.declared.stream.Stream.{Stream}
use Rattle.budget.specs.declared.stream.Stream.TheVariants.{Data, Meta}

pub record State : Type 0 where
  pub geometry : Geometry
  -- the class and the erase count of each block
  pub table : List TableRow
  -- how far each block is filled
  pub fills : List Fill
  -- the block that each stream has open
  pub data_open : Option ℕ
  pub meta_open : Option ℕ

-- what a block past the end counts as
abbrev pub no_fill : Fill
no_fill = record { pointer = 0; live = 0 }

abbrev pub fill_at : State → ℕ → Fill
fill_at s block = get_or s.fills block no_fill

-- the page of a block that is programmed next
abbrev pub pointer_at : State → ℕ → ℕ
pointer_at s block = (fill_at s block).pointer

-- its live pages
abbrev pub live_at : State → ℕ → ℕ
live_at s block = (fill_at s block).live

-- the open block of a stream
abbrev pub open_of : State → Stream → Option ℕ
open_of s Data = s.data_open
open_of s Meta = s.meta_open

-- whether an open block, if there is one, is this one
abbrev pub is_open_block : Option ℕ → ℕ → Bool
is_open_block None block = false
is_open_block (Some open_block) block = open_block == block

-- whether a stream has the block open
abbrev pub is_open : State → ℕ → Bool
is_open s block = is_open_block s.data_open block || is_open_block s.meta_open block

-- a good block with no page programmed
abbrev pub is_free : State → ℕ → Bool
is_free s block = is_good_at s.table block && (pointer_at s block == 0)

-- a good block that is neither free nor open
abbrev pub is_closed : State → ℕ → Bool
is_closed s block = is_good_at s.table block && not (pointer_at s block == 0) && not (is_open s block)

-- how many blocks are free
abbrev pub free_count : State → ℕ
free_count s = count_by (is_free s) (range_with_len 0 s.geometry.blocks)

-- an open block is good, it has a page programmed and one over
pub record IsOpen (s : State) (block : ℕ) : Type 0 where
  pub within : block < s.geometry.blocks
  pub good : is_good_at s.table block ≡ true
  pub begun : 0 < pointer_at s block
  pub room : pointer_at s block < s.geometry.pages

-- true whatever the die does
pub record AreBlocksSafe (free : ℕ) (s : State) : Type 0 where
  pub table_whole : length s.table ≡ s.geometry.blocks
  pub fills_whole : length s.fills ≡ s.geometry.blocks
  pub pointers : (block : ℕ) → block < s.geometry.blocks → pointer_at s block ≤ s.geometry.pages
  pub free_is : free ≡ free_count s
  pub opened : (stream : Stream) (block : ℕ) → open_of s stream ≡ Some block → IsOpen s block
  pub apart : (block : ℕ) → s.data_open ≡ Some block → s.meta_open ≡ Some block → ⊥
