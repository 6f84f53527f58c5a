-- What a driver is seen as.
use Rattle.std.specs.Prelude.{◌≡◌, ℕ, Bool, List, [], ◌∷◌, ◌++◌, Result, Ok, Err}
use Rattle.page_layout.specs.declared.geometry.Geometry.{Geometry}
use Rattle.page_layout.specs.Counter.{HasRisen}
use Rattle.page_layout.specs.Flash.{Flash, Operation, Steps}
use Rattle.page_layout.specs.Recording.{Recording, hand_after}
use Rattle.onfi_cycles.specs.declared.nand.BusFault.{BusFault}
use Rattle.onfi_cycles.specs.declared.nand.BusFault.TheVariants.{Device}
use Rattle.onfi_cycles.specs.declared.nand.Outcome.{Outcome}
use Rattle.onfi_cycles.specs.Outcomes.{is_passed}
use Rattle.onfi_cycles.specs.Cycles.{Cycle, DieState, Phase, Output, Ready}
use Rattle.onfi_cycles.specs.Spelling.{Taken, FailsIn}

-- a driver: its bus, what it has done to the die behind it, and its counts
pub record DriverState (B : Type 0) : Type 0 where
  pub bus : B
  pub told : Recording
  pub geometry : Geometry
  pub reads : ℕ
  pub programs : ℕ
  pub erases : ℕ
  pub failures : ℕ

-- the record with one operation more
abbrev pub gained : Operation → Recording → Recording
gained op told = record { image = told.image; log = told.log ++ op ∷ []; at_hand = hand_after told.at_hand (op ∷ []) }

-- the record with this operation at hand
abbrev pub cut_in : Operation → Recording → Recording
cut_in op told = record { image = told.image; log = told.log; at_hand = told.at_hand ++ op ∷ [] }

-- the record of a die to which nothing was done yet
abbrev pub untouched : Flash → Recording
untouched s = record { image = s.image; log = []; at_hand = [] }

-- no command is unfinished
abbrev pub IsReady : Phase → Type 0
IsReady phase = (out : Output) × (phase ≡ Ready out)

-- the flash behind a driver, which knows its geometry itself
abbrev pub seen : Geometry → Flash → Flash
seen g s = record { geometry = g; image = s.image; next_pages = s.next_pages; abuse = s.abuse }

-- the same of a driver over a bus with this die
abbrev pub flash_by : {B : Type 0} → (B → DieState) → DriverState B → Flash
flash_by die d = seen d.geometry (die d.bus).flash

-- An operation was done: its cycles were taken, and it was one lawful step of the flash.
pub record Performed (op : Bool → Flash → Operation) (cycles : List Cycle) (old new : DieState) (outcome : Outcome) : Type 0 where
  pub spells : Taken old cycles new
  pub step : Steps old.flash (op (is_passed outcome) new.flash) new.flash
  pub ready : IsReady new.phase

-- A page was read: its cycles were taken, and the flash stayed.
pub record Fetched (cycles : List Cycle) (old new : DieState) : Type 0 where
  pub spells : Taken old cycles new
  pub same : new.flash ≡ old.flash
  pub ready : IsReady new.phase

-- The device failed at one of the cycles, and counted it.
pub record Broke (cycles : List Cycle) (old new : DieState) (failed failed' : ℕ) (fault : BusFault) : Type 0 where
  pub spells : FailsIn old cycles fault new
  pub device : fault ≡ Device
  pub ready : IsReady new.phase
  pub rose : HasRisen failed failed'

-- what a program or an erase came to, by its result
abbrev pub Operated : (Bool → Flash → Operation) → List Cycle → DieState → DieState → ℕ → ℕ → Result Outcome BusFault → Type 0
Operated op cycles old new failed failed' (Ok outcome) = Performed op cycles old new outcome
Operated op cycles old new failed failed' (Err fault) = Broke cycles old new failed failed' fault

-- what a page read came to, by its result
abbrev pub Read : {A : Type 0} → List Cycle → DieState → DieState → ℕ → ℕ → Result A BusFault → Type 0
Read cycles old new failed failed' (Ok x) = Fetched cycles old new
Read cycles old new failed failed' (Err fault) = Broke cycles old new failed failed' fault
