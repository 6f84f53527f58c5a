-- The faults that are set on a die.
use Rattle.std.specs.Prelude.{◌≡◌, ◌≢◌, ◌⊎◌, ℕ, ◌<◌, ◌==◌, List, [], ◌∷◌, length, find, Option, Some, None, IsSome}
use Rattle.page_layout.specs.declared.geometry.Geometry.{Geometry}
use Rattle.page_layout.specs.Geometry.{page_bytes}
use Rattle.page_layout.specs.Sound.{record_of}
use Rattle.onfi_cycles.specs.Cycles.{page_of}
use Rattle.nand_die.specs.declared.fault.Fault.{Fault}
use Rattle.nand_die.specs.declared.fault.DieFault.{DieFault}
use Rattle.nand_die.specs.declared.fault.DieFault.TheVariants.{WrongLength, BadMark, OutOfMemory, SoundFaultPage}

-- the fault of the nth program or erase: of two with one number the first
abbrev pub fault_at : List Fault → ℕ → Option Fault
fault_at faults n = find (λ f. f.nth_change == n) faults

-- the bytes that it leaves, none where the page stays
abbrev pub left_by : Option Fault → List ℕ
left_by None = []
left_by (Some f) = f.page_left.items

-- bytes that a failing program or erase may leave: none, or a page with no sound record
pub record IsPageLeft (g : Geometry) (left : List ℕ) : Type 0 where
  pub size : 0 < length left → length left ≡ page_bytes g
  pub unsound : 0 < length left → record_of (page_of g left) ≡ None

-- the same of each fault of a list
abbrev pub ArePagesLeft : Geometry → List Fault → Type 0
ArePagesLeft g [] = Unit {0}
ArePagesLeft g (f ∷ fs) = IsPageLeft g f.page_left.items × ArePagesLeft g fs

-- why bytes may not be left: the length is looked at first
abbrev pub IsWrongPageLeft : Geometry → List ℕ → DieFault → Type 0
IsWrongPageLeft g left WrongLength = (0 < length left) × (length left ≢ page_bytes g)
IsWrongPageLeft g left (BadMark block) = ⊥
IsWrongPageLeft g left OutOfMemory = ⊥
IsWrongPageLeft g left SoundFaultPage = (length left ≡ page_bytes g) × IsSome (record_of (page_of g left))

-- why the first fault of the list whose bytes may not be left is refused
abbrev pub HasFirstWrong : Geometry → List Fault → DieFault → Type 0
HasFirstWrong g [] fault = ⊥
HasFirstWrong g (f ∷ fs) fault = IsWrongPageLeft g f.page_left.items fault ⊎ (IsPageLeft g f.page_left.items × HasFirstWrong g fs fault)
