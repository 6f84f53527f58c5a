-- What is held of a key once some rows were looked at, and what it comes to in the end.
use Rattle.std.specs.Prelude.{◌≡◌, ℕ, ◌&&◌, nat_lt, not, Bool, true, false, Option, Some, None, is_some}
use Rattle.std.specs.Int.{w64, from_le_bytes}
use Rattle.page_layout.specs.declared.newest.Latest.{Latest}
use Rattle.page_layout.specs.declared.newest.Latest.TheVariants as latest
use Rattle.lab_dump.specs.declared.trace.Trace.{Trace}
use Rattle.lab_dump.specs.declared.trace.Trace.TheVariants.{Never, Once, Tied}
use Rattle.lab_dump.specs.declared.held.KeyState.{KeyState}
use Rattle.lab_dump.specs.declared.held.KeyState.TheVariants as state
use Rattle.lab_dump.specs.Lost.{is_there}

-- it says as much, but for the rows of a tie
abbrev pub TellsTrace : Trace → Latest → Type 0
TellsTrace Never latest.Never = Unit {0}
TellsTrace (Once at kept) (latest.Once row s) = (at ≡ row) × (from_le_bytes w64 kept ≡ s)
TellsTrace (Tied kept) (latest.Tied a b s) = from_le_bytes w64 kept ≡ s
TellsTrace _ _ = ⊥

-- whether a sector has lost a page of which this is held in the end, by the row that is said of it and the sequence that was next
abbrev pub is_lost_in_trace : Option ℕ → ℕ → Trace → Bool
is_lost_in_trace said next Never = is_some said
is_lost_in_trace said next (Once at kept) = not (is_there said at) && nat_lt (from_le_bytes w64 kept) next
is_lost_in_trace said next (Tied kept) = true

-- whether a page of this sequence is newer than all that are known
abbrev pub is_before : Trace → ℕ → Bool
is_before Never s = true
is_before (Once row kept) s = nat_lt (from_le_bytes w64 kept) s
is_before (Tied kept) s = nat_lt (from_le_bytes w64 kept) s

-- the row of the newest page, or none
abbrev pub place_in_trace : Trace → Option ℕ
place_in_trace Never = None
place_in_trace (Once row kept) = Some row
place_in_trace (Tied kept) = None

-- two pages share the greatest sequence
abbrev pub is_tied_in : Trace → Bool
is_tied_in Never = false
is_tied_in (Once row kept) = false
is_tied_in (Tied kept) = true

-- how the key stands
abbrev pub key_state_in : Trace → KeyState
key_state_in Never = state.Absent
key_state_in (Once row kept) = state.Found
key_state_in (Tied kept) = state.Tied
