-- What each call does to the blocks.
use Rattle.std.specs.Prelude.{◌≡◌, ◌⊎◌, ℕ, ◌+◌, ◌-◌, ◌*◌, ◌^◌, ◌<◌, ◌≤◌, nat_lt, true, false, if◌then◌else◌, slice_set, Option, Some, None, MatchOption}
use Rattle.std.specs.Bool.{then_some}
use Rattle.bad_blocks.specs.Table.{is_good_at, wear_at, retired, erased_once}
use Rattle.allocation.specs.declared.fill.Fill.{Fill}
use Rattle.budget.specs.declared.stream.Stream.{Stream}
use Rattle.budget.specs.declared.stream.Stream.TheVariants.{Data, Meta}
use Rattle.allocation.specs.State.{State, pointer_at, live_at, open_of, is_open_block, is_free, is_closed, free_count}

-- the first in the order of erase count, then number
pub record ComesFirst (wear block other_wear other : ℕ) : Type 0 where
  pub wear_least : wear ≤ other_wear
  pub number_least : wear ≡ other_wear → block ≤ other

-- the free block that is opened next
pub record IsLeastWorn (s : State) (below block : ℕ) : Type 0 where
  pub within : block < below
  pub free : is_free s block ≡ true
  pub first : (other : ℕ) → other < below → is_free s other ≡ true → ComesFirst (wear_at s.table block) block (wear_at s.table other) other

-- or none, where no block is free
abbrev pub IsNextFree : State → Option ℕ → Type 0
IsNextFree s found = MatchOption found ((b : ℕ) → b < s.geometry.blocks → is_free s b ≡ false) (IsLeastWorn s s.geometry.blocks)

-- fewer live pages, or as many and no more erases
pub record GoesBefore (s : State) (block later : ℕ) : Type 0 where
  pub live_least : live_at s block ≤ live_at s later
  pub wear_least : live_at s block ≡ live_at s later → wear_at s.table block ≤ wear_at s.table later

-- more live pages, or as many and more erases
pub record GoesAfter (s : State) (block later : ℕ) : Type 0 where
  pub live_least : live_at s later ≤ live_at s block
  pub wear_least : live_at s block ≡ live_at s later → wear_at s.table later < wear_at s.table block

-- the closed block that is collected next: least by live pages, then by erase count, then by number
pub record IsVictim (s : State) (below block : ℕ) : Type 0 where
  pub within : block < below
  pub closed : is_closed s block ≡ true
  pub live_least : (other : ℕ) → other < below → is_closed s other ≡ true → live_at s block ≤ live_at s other
  pub first : (other : ℕ) → other < below → is_closed s other ≡ true → live_at s block ≡ live_at s other → ComesFirst (wear_at s.table block) block (wear_at s.table other) other

-- or none, where no block is closed
abbrev pub IsNextVictim : State → Option ℕ → Type 0
IsNextVictim s found = MatchOption found ((b : ℕ) → b < s.geometry.blocks → is_closed s b ≡ false) (IsVictim s s.geometry.blocks)

-- the open block of a stream is this one, or none
abbrev pub with_open : Stream → Option ℕ → State → State
with_open Data block s = record { geometry = s.geometry; table = s.table; fills = s.fills; data_open = block; meta_open = s.meta_open }
with_open Meta block s = record { geometry = s.geometry; table = s.table; fills = s.fills; data_open = s.data_open; meta_open = block }

-- a block is filled so far
abbrev pub with_fill : ℕ → Fill → State → State
with_fill block fill s = record { geometry = s.geometry; table = s.table; fills = slice_set s.fills block fill; data_open = s.data_open; meta_open = s.meta_open }

-- the next page of the block is the stream's, which is closed with its last page
abbrev pub taken : Stream → ℕ → State → State
taken stream block s =
    let next : ℕ = pointer_at s block + 1 in
    with_open stream (then_some (nat_lt next s.geometry.pages) block)
    (with_fill block (record { pointer = next; live = live_at s block }) s)

-- the stream's open block, or else the free block that is opened now
pub record IsNextBlock (s : State) (stream : Stream) (block : ℕ) : Type 0 where
  pub within : block < s.geometry.blocks
  pub good : is_good_at s.table block ≡ true
  pub room : pointer_at s block < s.geometry.pages
  pub from : (open_of s stream ≡ Some block) ⊎ ((open_of s stream ≡ None) × IsLeastWorn s s.geometry.blocks block)

-- no block is open or free
pub record HasNone (s : State) (stream : Stream) : Type 0 where
  pub none_open : open_of s stream ≡ None
  pub none_free : free_count s ≡ 0

-- the next row of the stream was taken
pub record TakesNextRow (stream : Stream) (row : ℕ) (old new : State) : Type 0 where
  pub block : ℕ
  pub next : IsNextBlock old stream block
  pub row_is : row ≡ block * old.geometry.pages + pointer_at old block
  pub left : new ≡ taken stream block old

-- what is open is no longer so if it is this block
abbrev pub open_without : Option ℕ → ℕ → Option ℕ
open_without opened block = if is_open_block opened block then None else opened

-- the block failed
abbrev pub without : ℕ → State → State
without block s = record {
  geometry = s.geometry;
  table = retired s.table block;
  fills = s.fills;
  data_open = open_without s.data_open block;
  meta_open = open_without s.meta_open block;
}

-- the block was erased
abbrev pub erased : ℕ → State → State
erased block s = record {
  geometry = s.geometry;
  table = erased_once s.table block;
  fills = slice_set s.fills block (record { pointer = 0; live = live_at s block });
  data_open = s.data_open;
  meta_open = s.meta_open;
}

-- the greatest count of live pages that is told from greater ones
abbrev pub most_live : ℕ
most_live = 2 ^ 32 - 1

-- a block has so many live pages
abbrev pub with_live : ℕ → ℕ → State → State
with_live block live s = with_fill block (record { pointer = pointer_at s block; live = live }) s
