-- What is held of the page that a sector is shown from, and how the sector stands.
use Rattle.std.specs.Prelude.{◌≡◌, ℕ, Bool, true, false, List, Option, Some, None, count_by, option_map, set}
use Rattle.std.specs.Int.{w64, from_le_bytes}
use Rattle.page_layout.specs.declared.newest.Latest.{Latest}
use Rattle.page_layout.specs.declared.newest.Latest.TheVariants as latest
use Rattle.lab_dump.specs.declared.held.Held.{Held}
use Rattle.lab_dump.specs.declared.held.Held.TheVariants as held
use Rattle.lab_dump.specs.declared.held.KeyState.{KeyState}
use Rattle.lab_dump.specs.declared.held.KeyState.TheVariants as state
use Rattle.lab_dump.specs.declared.mark.MapMark.{MapMark}
use Rattle.lab_dump.specs.declared.mark.MapMark.TheVariants as mark
use Rattle.lab_dump.specs.declared.held.SectorShown.{SectorShown}
use Rattle.lab_dump.specs.declared.held.SectorShown.TheVariants as shown
use Rattle.lab_dump.specs.declared.held.Change.{Change}
use Rattle.lab_dump.specs.declared.held.Change.TheVariants.{Stays, Newest, Tie}
use Rattle.lab_dump.specs.Damaged.{Place, Nowhere, row_said_newer}

-- it says as much of the sound pages, but for the rows
abbrev pub TellsSound : Held → Latest → Type 0
TellsSound held.Never latest.Never = Unit {0}
TellsSound (held.Once kept) (latest.Once row s) = from_le_bytes w64 kept ≡ s
TellsSound (held.Tied kept) (latest.Tied a b s) = from_le_bytes w64 kept ≡ s
TellsSound _ _ = ⊥

-- it says the greatest sequence that the others say
abbrev pub TellsSaid : Held → Latest → Type 0
TellsSaid (held.Damaged kept) (latest.Once row s) = from_le_bytes w64 kept ≡ s
TellsSaid (held.Damaged kept) (latest.Tied a b s) = from_le_bytes w64 kept ≡ s
TellsSaid _ _ = ⊥

-- the second where the sector is shown from a page that is not sound
abbrev pub TellsHeldBy : Held → (sound said : Latest) → (damaged : Option ℕ) → Type 0
TellsHeldBy h sound said None = TellsSound h sound
TellsHeldBy h sound said (Some row) = TellsSaid h said

abbrev pub TellsHeld : Held → (sound said : Latest) → Type 0
TellsHeld h sound said = TellsHeldBy h sound said (row_said_newer sound said)

-- the sequence that is held
abbrev pub greatest_in : Held → Option ℕ
greatest_in held.Never = None
greatest_in (held.Once kept) = Some (from_le_bytes w64 kept)
greatest_in (held.Tied kept) = Some (from_le_bytes w64 kept)
greatest_in (held.Damaged kept) = Some (from_le_bytes w64 kept)

-- where the sector is shown from before one more page, which stands here, and after it
abbrev pub Moves : Change → (here before after : Place) → Type 0
Moves Stays here before after = after ≡ before
Moves Newest here before after = after ≡ here
Moves Tie here before after = after ≡ Nowhere

-- the pieces after that, where a newest page has these bytes and none reads as the others
abbrev pub pieces_after : Change → ℕ → List ℕ → List ℕ → Option (List (List ℕ)) → Option (List (List ℕ))
pieces_after Stays n bytes blank pieces = pieces
pieces_after Newest n bytes blank pieces = option_map (λ ps. set ps n bytes) pieces
pieces_after Tie n bytes blank pieces = option_map (λ ps. set ps n blank) pieces

-- how a sector is shown of which this is known
abbrev pub shown_in : Held → SectorShown
shown_in held.Never = shown.Absent
shown_in (held.Once kept) = shown.Found
shown_in (held.Tied kept) = shown.Tied
shown_in (held.Damaged kept) = shown.Damaged

-- how the array's map marks it: finished, bad or not tried
abbrev pub mark_by : SectorShown → MapMark
mark_by shown.Absent = mark.Untried
mark_by shown.Found = mark.Finished
mark_by shown.Tied = mark.Bad
mark_by shown.Damaged = mark.Bad

abbrev pub mark_in : Held → MapMark
mark_in h = mark_by (shown_in h)

-- whether as a page has it that is not sound
abbrev pub is_damaged : SectorShown → Bool
is_damaged shown.Absent = false
is_damaged shown.Found = false
is_damaged shown.Tied = false
is_damaged shown.Damaged = true

-- how many sectors are shown so
unfoldable pub damaged_of : List SectorShown → ℕ
damaged_of states = count_by is_damaged states

-- how it is shown by its sound pages alone
abbrev pub shown_by : Latest → SectorShown
shown_by latest.Never = shown.Absent
shown_by (latest.Once row s) = shown.Found
shown_by (latest.Tied a b s) = shown.Tied

-- how it is shown where this is the row of a page that is not sound, if one is newer
abbrev pub shown_with : (damaged : Option ℕ) → Latest → SectorShown
shown_with (Some row) sound = shown.Damaged
shown_with None sound = shown_by sound

-- how a key stands
abbrev pub state_by : Latest → KeyState
state_by latest.Never = state.Absent
state_by (latest.Once row s) = state.Found
state_by (latest.Tied a b s) = state.Tied
