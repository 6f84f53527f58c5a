-- Which blocks are bad once some were named.
use Rattle.std.specs.Prelude.{◌≡◌, ◌<◌, ℕ, Bool, List, length, take, slice_get, get_or, Some, if◌then◌else◌}
use Rattle.page_layout.specs.Flash.{NextState, no_next_page}
use Rattle.nand_die.specs.Made.{NamedAll, NamedUpTo, barred_next_page, is_named}

-- a block is bad, with all else of it as it was; or it is as it was
abbrev pub bad_if : Bool → NextState → NextState
bad_if named t = if named then barred_next_page t else t

-- the blocks of the list are bad, and each other one is as it was
pub record OnlyTheseBad (names : List ℕ) (old new : List NextState) : Type 0 where
  pub long : length new ≡ length old
  pub each : (block : ℕ) → block < length old → get_or new block no_next_page ≡ bad_if (is_named names block) (get_or old block no_next_page)

-- WHERE ALL WERE NAMED just those of the list became bad
abbrev pub NamedAllLaw : Type 0
NamedAllLaw = (old new : List NextState) (names : List ℕ) → NamedAll old new names → OnlyTheseBad names old new

-- WHERE ONE WAS REFUSED just those before its place did
abbrev pub NamedUpToLaw : Type 0
NamedUpToLaw = (old new : List NextState) (names : List ℕ) (block : ℕ) → NamedUpTo old new names block → (at : ℕ) × (slice_get names at ≡ Some block) × OnlyTheseBad (take at names) old new
