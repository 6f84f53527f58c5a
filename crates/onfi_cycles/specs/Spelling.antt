-- How a driver spells its operations: lists of cycles, and what it is to send one.
use Rattle.std.specs.Prelude.{◌≡◌, ◌⊎◌, ℕ, ◌*◌, ◌/◌, ◌%◌, List, [], ◌∷◌, ◌++◌, Result, Ok, Err}
use Rattle.page_layout.specs.declared.geometry.Geometry.{Geometry}
use Rattle.onfi_cycles.specs.declared.nand.BusFault.{BusFault}
use Rattle.page_layout.specs.declared.source.SourceFault.{SourceFault}
use Rattle.onfi_cycles.specs.Outcomes.{bus_fault_number}
use Rattle.onfi_cycles.specs.Cycles.{Cycle, Command, Address, DataIn, DataOut, CycleStep, DieState}

-- the row, least significant byte first
abbrev pub row_address : ℕ → List Cycle
row_address row = Address (row % 256) ∷ Address (row / 256 % 256) ∷ Address (row / 65536) ∷ []

-- column 0, then the row
abbrev pub page_address : ℕ → List Cycle
page_address row = Address 0 ∷ Address 0 ∷ row_address row

-- a confirm cycle, and the status byte taken
abbrev pub confirm_cycles : ℕ → List Cycle
confirm_cycles code = Command code ∷ Command 0x70 ∷ DataOut 1 ∷ []

-- a page is put into the register, data area first
abbrev pub load_cycles : ℕ → List ℕ → List ℕ → List Cycle
load_cycles row body spare = Command 0x80 ∷ (page_address row ++ (DataIn body ∷ DataIn spare ∷ []))

-- a program of a page
unfoldable pub program_cycles : ℕ → List ℕ → List ℕ → List Cycle
program_cycles row body spare = load_cycles row body spare ++ confirm_cycles 0x10

-- an erase of a block, by the row of its page 0
unfoldable pub erase_cycles : Geometry → ℕ → List Cycle
erase_cycles g block = (Command 0x60 ∷ row_address (block * g.pages)) ++ confirm_cycles 0xD0

-- the bytes of an addressed page are put out, data area first
abbrev pub fetch_cycles : ℕ → ℕ → List Cycle
fetch_cycles data_bytes spare_bytes = Command 0x30 ∷ DataOut data_bytes ∷ DataOut spare_bytes ∷ []

-- a read of a page, of so many bytes of data area and spare area
unfoldable pub read_cycles : ℕ → ℕ → ℕ → List Cycle
read_cycles row data_bytes spare_bytes = (Command 0x00 ∷ page_address row) ++ fetch_cycles data_bytes spare_bytes

-- a cycle is answered: it was taken, or it failed
abbrev pub done : Result (Unit {0}) BusFault
done = Ok tt

abbrev pub refused : BusFault → Result (Unit {0}) BusFault
refused fault = Err fault

-- the cycles were taken one after another, each a step of the protocol
abbrev pub Taken : DieState → List Cycle → DieState → Type 0
Taken old [] new = new ≡ old
Taken old (cycle ∷ rest) new = (mid : DieState) × CycleStep old cycle done mid × Taken mid rest new

-- one of the cycles failed, and those before it were taken
abbrev pub FailsIn : DieState → List Cycle → BusFault → DieState → Type 0
FailsIn old [] fault new = ⊥
FailsIn old (cycle ∷ rest) fault new =
    CycleStep old cycle (refused fault) new ⊎ ((mid : DieState) × CycleStep old cycle done mid × FailsIn mid rest fault new)

-- a call sent these cycles: all were taken, or one failed with the fault that the call answers
abbrev pub Spells : {A : Type 0} → DieState → List Cycle → Result A BusFault → DieState → Type 0
Spells old cycles (Ok x) new = Taken old cycles new
Spells old cycles (Err fault) new = FailsIn old cycles fault new

-- the same of a page read, whose fault is the number of the bus's fault
abbrev pub SpellsRead : {A : Type 0} → DieState → List Cycle → Result A SourceFault → DieState → Type 0
SpellsRead old cycles (Ok x) new = Taken old cycles new
SpellsRead old cycles (Err e) new = (fault : BusFault) × (e.0 ≡ bus_fault_number fault) × FailsIn old cycles fault new
