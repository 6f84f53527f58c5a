-- Which answers the state of a die allows its format.
use Rattle.std.specs.Prelude.{◌≡◌, ℕ, ◌+◌, ◌<◌, ◌≤◌, [], Result, Ok, Err}
use Rattle.page_layout.specs.declared.geometry.Geometry.{Geometry}
use Rattle.page_layout.specs.Geometry.{row_count}
use Rattle.page_layout.specs.Flash.{Flash}
use Rattle.mount.specs.declared.format_fault.FormatFault.{FormatFault}
use Rattle.mount.specs.declared.format_fault.FormatFault.TheVariants.{TooFewGood, Bus, OutOfMemory, WriteFailed, NotFresh}
use Rattle.mount.specs.Fresh.{is_used, IsFirstPass, IsFresh}
use Rattle.mount.specs.Formatted.{good_after, Formats}

-- the number of unmarked blocks, of which there are too few
abbrev pub IsFewAnswer : Geometry → ℕ → Flash → Flash → Result ℕ FormatFault → Type 0
IsFewAnswer g needed old new (Ok good) = ⊥
IsFewAnswer g needed old new (Err (TooFewGood good asked)) = (good ≡ good_after g old.image []) × (asked ≡ needed) × (new ≡ old)
IsFewAnswer g needed old new (Err Bus) = Unit {0}
IsFewAnswer g needed old new (Err OutOfMemory) = Unit {0}
IsFewAnswer g needed old new (Err WriteFailed) = ⊥
IsFewAnswer g needed old new (Err (NotFresh row)) = ⊥

-- the row that keeps the die from being fresh
abbrev pub IsUsedAnswer : ℕ → Result ℕ FormatFault → Type 0
IsUsedAnswer row (Ok good) = ⊥
IsUsedAnswer row (Err (TooFewGood good asked)) = ⊥
IsUsedAnswer row (Err Bus) = Unit {0}
IsUsedAnswer row (Err OutOfMemory) = Unit {0}
IsUsedAnswer row (Err WriteFailed) = ⊥
IsUsedAnswer row (Err (NotFresh other)) = other ≡ row

-- the good blocks that the failures leave, or what those failures make of them
abbrev pub IsFreshAnswer : ℕ → ℕ → Result ℕ FormatFault → Type 0
IsFreshAnswer needed unmarked (Ok good) = good ≤ unmarked
IsFreshAnswer needed unmarked (Err (TooFewGood good asked)) = (good < unmarked) × (good + 1 ≡ needed)
IsFreshAnswer needed unmarked (Err Bus) = Unit {0}
IsFreshAnswer needed unmarked (Err OutOfMemory) = Unit {0}
IsFreshAnswer needed unmarked (Err WriteFailed) = needed + 2 ≤ unmarked
IsFreshAnswer needed unmarked (Err (NotFresh row)) = ⊥

-- a die with too few unmarked blocks
abbrev pub FewLaw : Type 0
FewLaw = (g : Geometry) (needed : ℕ) (old new : Flash) (r : Result ℕ FormatFault) → good_after g old.image [] < needed → Formats g needed old new r → IsFewAnswer g needed old new r

-- a die with enough of them that isn't fresh
abbrev pub UsedLaw : Type 0
UsedLaw = (g : Geometry) (needed : ℕ) (old new : Flash) (row : ℕ) (r : Result ℕ FormatFault) → needed ≤ good_after g old.image []
    → IsFirstPass (is_used g old.image) 0 (row_count g) row → Formats g needed old new r → IsUsedAnswer row r

-- a fresh die with enough of them
abbrev pub FreshLaw : Type 0
FreshLaw = (g : Geometry) (needed : ℕ) (old new : Flash) (r : Result ℕ FormatFault) → needed ≤ good_after g old.image [] → IsFresh g old.image → Formats g needed old new r → IsFreshAnswer needed (good_after g old.image []) r
