-- What a reader of the bus protocol would ask of it first, as one statement each.
use Rattle.std.specs.Prelude.{◌≡◌, ◌≢◌, ℕ, Bool, false, List, length, ◌<◌}
use Rattle.page_layout.specs.declared.geometry.Geometry.{Geometry}
use Rattle.page_layout.specs.Geometry.{row_count}
use Rattle.page_layout.specs.Page.{page}
use Rattle.page_layout.specs.Flash.{Flash, Operation, Program, Erase, Steps, page_at, block_at}
use Rattle.onfi_cycles.specs.declared.nand.BusFault.{BusFault}
use Rattle.onfi_cycles.specs.declared.nand.BusFault.TheVariants.{NoReset, UnknownCommand, Device}
use Rattle.onfi_cycles.specs.Cycles.{DieState, Phase, Unreset, Ready, StatusOut, Cycle, Command, CycleStep, due_of, Resets, Refuses, is_known}
use Rattle.onfi_cycles.specs.Cycles.{given_up, to_phase, status_of}
use Rattle.onfi_cycles.specs.Spelling.{Taken, done, refused, program_cycles, erase_cycles, read_cycles}
use Rattle.onfi_cycles.specs.Driver.{IsReady}

-- Reset is taken at any time
abbrev pub ResetLaw : Type 0
ResetLaw = (g : Geometry) (phase : Phase) → due_of g phase (Command 0xFF) ≡ Resets

-- before the first Reset every other cycle is refused NoReset, whatever it is
abbrev pub NoResetLaw : Type 0
NoResetLaw = (g : Geometry) (cycle : Cycle) → cycle ≢ Command 0xFF → due_of g Unreset cycle ≡ Refuses NoReset

-- after it a code that stands in no row of the table is UnknownCommand, wherever the die stands
abbrev pub UnknownLaw : Type 0
UnknownLaw = (g : Geometry) (phase : Phase) (code : ℕ) → phase ≢ Unreset → is_known code ≡ false → due_of g phase (Command code) ≡ Refuses UnknownCommand

-- a cycle that can be taken is refused by nothing but the device
abbrev pub TakenLaw : Type 0
TakenLaw = (old new other : DieState) (cycle : Cycle) (fault : BusFault) → CycleStep old cycle done new → CycleStep old cycle (refused fault) other → fault ≡ Device

-- a cycle is refused in one way
abbrev pub RefusedLaw : Type 0
RefusedLaw = (old a b : DieState) (cycle : Cycle) (f g : BusFault) → CycleStep old cycle (refused f) a → CycleStep old cycle (refused g) b → f ≢ Device → g ≢ Device → (f ≡ g) × (a ≡ b)

-- a refusal changes no page and no status, and gives up the unfinished command
abbrev pub GivenUpLaw : Type 0
GivenUpLaw = (old new : DieState) (cycle : Cycle) (fault : BusFault) → CycleStep old cycle (refused fault) new → fault ≢ Device → new ≡ to_phase (given_up old.phase) old

-- ---- what the spelled operations do to a die that stands ready

-- an operation was done, and its status is to be put out
pub record Ends (op : Bool → Flash → Operation) (old new : DieState) : Type 0 where
  pub passed : Bool
  pub step : Steps old.flash (op passed new.flash) new.flash
  pub phase : new.phase ≡ Ready StatusOut
  pub status : new.status ≡ status_of passed

-- the cycles of a program are one program of the page
abbrev pub ProgramSpelling : Type 0
ProgramSpelling = (old new : DieState) (row : ℕ) (body spare : List ℕ) → IsReady old.phase → row < row_count old.flash.geometry
    → length body ≡ old.flash.geometry.data_bytes → length spare ≡ old.flash.geometry.spare_bytes → Taken old (program_cycles row body spare) new
    → Ends (λ passed s. Program row (page body spare) passed (page_at s row)) old new

-- the cycles of an erase are one erase of the block
abbrev pub EraseSpelling : Type 0
EraseSpelling = (old new : DieState) (block : ℕ) → IsReady old.phase → block < old.flash.geometry.blocks → Taken old (erase_cycles old.flash.geometry block) new
    → Ends (λ passed s. Erase block passed (block_at s block)) old new

-- the cycles of a read change nothing on the flash
abbrev pub ReadSpelling : Type 0
ReadSpelling = (old new : DieState) (row : ℕ) → IsReady old.phase → row < row_count old.flash.geometry
    → Taken old (read_cycles row old.flash.geometry.data_bytes old.flash.geometry.spare_bytes) new → new.flash ≡ old.flash
