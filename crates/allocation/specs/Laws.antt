-- What the calls do to a block, and how they leave the others.
use Rattle.std.specs.Prelude.{◌≡◌, ◌≢◌, ℕ, ◌+◌, ◌<◌, ◌==◌, false}
use Rattle.budget.specs.declared.stream.Stream.{Stream}
use Rattle.bad_blocks.specs.Table.{is_good_at, table_row_at}
use Rattle.allocation.specs.State.{State, pointer_at, live_at, is_closed, AreBlocksSafe}
use Rattle.allocation.specs.Step.{IsNextBlock, taken, without, erased, with_live}

-- ---- the block itself

-- the block that is written next is good, so a bad one never is, and it is not closed
abbrev pub NextLaw : Type 0
NextLaw = (free : ℕ) (s : State) (stream : Stream) (block : ℕ) → AreBlocksSafe free s → IsNextBlock s stream block → is_closed s block ≡ false

-- it is closed with its last page
abbrev pub LastPageLaw : Type 0
LastPageLaw = (free : ℕ) (s : State) (stream : Stream) (block : ℕ) → AreBlocksSafe free s → IsNextBlock s stream block → is_closed (taken stream block s) block ≡ (pointer_at s block + 1 == s.geometry.pages)

-- a block that fails is bad
abbrev pub BadLaw : Type 0
BadLaw = (free : ℕ) (s : State) (block : ℕ) → AreBlocksSafe free s → block < s.geometry.blocks → is_good_at (without block s).table block ≡ false

-- and stays so, whatever block fails or is erased
pub record StaysBad (s : State) (block : ℕ) : Type 0 where
  pub fails : (b : ℕ) → b < s.geometry.blocks → is_good_at (without b s).table block ≡ false
  pub erases : (b : ℕ) → b < s.geometry.blocks → is_good_at (erased b s).table block ≡ false

abbrev pub TableKeepsBadLaw : Type 0
TableKeepsBadLaw = (free : ℕ) (s : State) (block : ℕ) → AreBlocksSafe free s → is_good_at s.table block ≡ false → StaysBad s block

-- ---- the other blocks

-- a block is as it was: its class, its erase count, its pages, and whether it is closed
pub record IsLeft (old new : State) (block : ℕ) : Type 0 where
  pub row : table_row_at new.table block ≡ table_row_at old.table block
  pub pointer : pointer_at new block ≡ pointer_at old block
  pub live : live_at new block ≡ live_at old block
  pub closed : is_closed new block ≡ is_closed old block

-- a block fails
abbrev pub FailedOthersLaw : Type 0
FailedOthersLaw = (s : State) (block other : ℕ) → other ≢ block → IsLeft s (without block s) other

-- a block is erased
abbrev pub ErasedOthersLaw : Type 0
ErasedOthersLaw = (s : State) (block other : ℕ) → other ≢ block → IsLeft s (erased block s) other

-- a page of a block is taken
abbrev pub TakenOthersLaw : Type 0
TakenOthersLaw = (s : State) (stream : Stream) (block other : ℕ) → IsNextBlock s stream block → other ≢ block → IsLeft s (taken stream block s) other

-- live pages are counted: the block itself is closed as it was, too
pub record IsLeftButLive (old new : State) (block : ℕ) : Type 0 where
  pub row : table_row_at new.table block ≡ table_row_at old.table block
  pub pointer : pointer_at new block ≡ pointer_at old block
  pub closed : is_closed new block ≡ is_closed old block

abbrev pub LiveOthersLaw : Type 0
LiveOthersLaw = (s : State) (free block live other : ℕ) → AreBlocksSafe free s → IsLeftButLive s (with_live block live s) other
