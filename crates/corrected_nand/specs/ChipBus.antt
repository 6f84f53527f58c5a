-- What a bus of a chip with bit errors says of the cycles of whole operations, where all of them were taken one after another. Its die has the
-- pages without their codes.
use Rattle.std.specs.Prelude.{◌≡◌, ℕ, Bool, true, ◌<◌, List, [], ◌∷◌, ◌++◌, length, Result, Ok}
use Rattle.page_layout.specs.declared.geometry.Geometry.{Geometry}
use Rattle.page_layout.specs.Geometry.{row_count}
use Rattle.page_layout.specs.Page.{Page, IsImage}
use Rattle.page_layout.specs.Flash.{Flash, Operation, Program, Erase, Steps, page_at, block_at, IsWhole}
use Rattle.page_layout.specs.Recording.{Recording}
use Rattle.onfi_cycles.specs.declared.nand.BusFault.{BusFault}
use Rattle.onfi_cycles.specs.declared.nand.Outcome.{Outcome}
use Rattle.onfi_cycles.specs.Outcomes.{is_passed, outcome_of}
use Rattle.onfi_cycles.specs.Cycles.{Cycle}
use Rattle.onfi_cycles.specs.Spelling.{read_cycles, program_cycles, erase_cycles}
use Rattle.onfi_cycles.specs.Sent.{Sent}
use Rattle.onfi_cycles.specs.Driver.{DriverState}
use Rattle.page_code.specs.Layout.{outer_bytes, coded}
use Rattle.page_code.specs.Near.{HasChipSizes}
use Rattle.corrected_nand.specs.Shown.{ReadsAt}

-- a driver for such a chip: that of the pages as they stand there, what it has done to the die without the codes, and the geometry of that
pub record ChipDriverState (B : Type 0) : Type 0 where
  pub driver : DriverState B
  pub told : Recording
  pub geometry : Geometry

-- no cycle changes whether the law is kept, and, where it is, the geometry
abbrev pub SteadyLaw : (B : Type 0) → (B → Flash) → (B → Bool) → (B → Cycle → Result (Unit {0}) BusFault → List ℕ → B → Type 0) → Type 0
SteadyLaw B chip keeps called =
    (old new : B) (cycle : Cycle) (answer : Result (Unit {0}) BusFault) (out : List ℕ) → called old cycle answer out new → (keeps new ≡ keeps old) × (keeps old ≡ true → (chip new).geometry ≡ (chip old).geometry)

-- A PAGE WAS PUT OUT: it reads as one of the chip may, and nothing changed
pub record PutsOut (old new : Flash) (row : ℕ) (put : Page) : Type 0 where
  pub reads : ReadsAt old.geometry old.image row put
  pub same : new ≡ old
  pub whole : IsImage old.geometry old.image

abbrev pub ReadLaw : (B : Type 0) → (B → Flash) → (B → Bool) → (B → Cycle → Result (Unit {0}) BusFault → List ℕ → B → Type 0) → Type 0
ReadLaw B chip keeps called =
    (old new : B) (row : ℕ) (put : Page) → keeps old ≡ true → row < row_count (chip old).geometry → HasChipSizes (chip old).geometry put
    → Sent called old (read_cycles row (chip old).geometry.data_bytes (outer_bytes (chip old).geometry)) (put.body ++ put.spare) new → PutsOut (chip old) (chip new) row put

-- AN OPERATION WAS DONE, as its status says
pub record Did (op : Bool → Flash → Operation) (old new : Flash) (outcome : Outcome) : Type 0 where
  pub step : Steps old (op (is_passed outcome) new) new
  pub whole : IsWhole new

-- a page that is programmed with its codes
abbrev pub CodedProgramLaw : (B : Type 0) → (B → Flash) → (B → Bool) → (B → Cycle → Result (Unit {0}) BusFault → List ℕ → B → Type 0) → Type 0
CodedProgramLaw B chip keeps called =
    (old new : B) (row : ℕ) (p : Page) (status : ℕ) (outcome : Outcome) → keeps old ≡ true → row < row_count (chip old).geometry → length p.body ≡ (chip old).geometry.data_bytes → length p.spare ≡ (chip old).geometry.spare_bytes
    → outcome_of status ≡ Ok outcome → Sent called old (program_cycles row (coded (chip old).geometry p).body (coded (chip old).geometry p).spare) (status ∷ []) new
    → Did (λ passed s. Program row p passed (page_at s row)) (chip old) (chip new) outcome

abbrev pub ChipEraseLaw : (B : Type 0) → (B → Flash) → (B → Bool) → (B → Cycle → Result (Unit {0}) BusFault → List ℕ → B → Type 0) → Type 0
ChipEraseLaw B chip keeps called =
    (old new : B) (block : ℕ) (status : ℕ) (outcome : Outcome) → keeps old ≡ true → block < (chip old).geometry.blocks
    → outcome_of status ≡ Ok outcome → Sent called old (erase_cycles (chip old).geometry block) (status ∷ []) new
    → Did (λ passed s. Erase block passed (block_at s block)) (chip old) (chip new) outcome
