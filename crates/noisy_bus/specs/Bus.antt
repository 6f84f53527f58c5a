-- A bus of a chip with bit errors, for tests: what it holds between two cycles, and what each cycle does.
use Rattle.std.specs.Prelude.{◌≡◌, ◌≢◌, ℕ, ◌+◌, ◌*◌, ◌/◌, ◌%◌, ◌^◌, ◌≤◌, ◌==◌, ◌&&◌, ◌||◌, if◌then◌else◌, Bool, true, List, [], ◌∷◌, ◌++◌, length, take, drop, Result, Ok, Err}
use Rattle.page_layout.specs.declared.geometry.Geometry.{Geometry}
use Rattle.page_layout.specs.Page.{Page, page}
use Rattle.page_layout.specs.Flash.{Flash, Program, Erase, page_at, block_at}
use Rattle.onfi_cycles.specs.declared.nand.BusFault.{BusFault}
use Rattle.onfi_cycles.specs.declared.nand.BusFault.TheVariants.{UnknownCommand, Device}
use Rattle.onfi_cycles.specs.declared.nand.Outcome.{Outcome}
use Rattle.onfi_cycles.specs.Outcomes.{is_passed}
use Rattle.onfi_cycles.specs.Cycles.{Cycle, Command, Address, DataIn, DataOut, status_of}
use Rattle.page_code.specs.Near.{HasChipSizes}
use Rattle.corrected_nand.specs.ChipBus.{PutsOut, Did}
use Rattle.noisy_bus.specs.declared.stage.Stage.{Stage}
use Rattle.noisy_bus.specs.declared.stage.Stage.TheVariants as stage

-- ---- what it holds

-- its chip, the geometry of the pages without their codes, where it stands, the bytes that came in or are to be put out, and its status byte
pub record BusState (N : Type 0) : Type 0 where
  pub nand : N
  pub geometry : Geometry
  pub stage : Stage
  pub held : List ℕ
  pub status : ℕ

-- the same elsewhere, with other bytes
abbrev pub moved : {N : Type 0} → Stage → List ℕ → BusState N → BusState N
moved to held b = record { nand = b.nand; geometry = b.geometry; stage = to; held = held; status = b.status }

-- ---- an address

-- what a byte of an address counts for in the row: that of a page has two bytes of a column first
abbrev pub weight : ℕ → ℕ → ℕ
weight code count =
    let place = if code == 0x60 then (count + 2) % 2 ^ 8 else count in
    if place == 2 then 1 else (if place == 3 then 256 else (if place == 4 then 65536 else 0))

abbrev pub address_after : Stage → ℕ → Stage
address_after (stage.Address code count row) byte = stage.Address code ((count + 1) % 2 ^ 8) ((row + weight code count * byte % 2 ^ 32) % 2 ^ 32)
address_after stage.Idle byte = stage.Idle
address_after (stage.Loading row) byte = stage.Loading row
address_after stage.Putting byte = stage.Putting

-- an address of a page to be programmed is whole after its last byte
abbrev pub loading_at : Stage → Stage
loading_at (stage.Address code count row) = if (code == 0x80) && (count == 5) then stage.Loading row else stage.Address code count row
loading_at stage.Idle = stage.Idle
loading_at (stage.Loading row) = stage.Loading row
loading_at stage.Putting = stage.Putting

-- ---- what a command does

-- these bytes are a page that was read of the row
pub record HasPutOutPage {N : Type 0} (flash : N → Flash) (honest : N → Bool) (g : Geometry) (row : ℕ) (old new : N) (bytes : List ℕ) : Type 0 where
  pub put : Page
  pub sized : HasChipSizes g put
  pub is : bytes ≡ put.body ++ put.spare
  pub puts : honest old ≡ true → PutsOut (flash old) (flash new) row put

-- the page of a row was read, and is to be put out
pub record HasReadPage {N : Type 0} (flash : N → Flash) (honest : N → Bool) (row : ℕ) (old new : BusState N) : Type 0 where
  pub put : Page
  pub sized : HasChipSizes old.geometry put
  pub is : new ≡ record { nand = new.nand; geometry = old.geometry; stage = stage.Putting; held = put.body ++ put.spare; status = old.status }
  pub puts : honest old.nand ≡ true → PutsOut (flash old.nand) (flash new.nand) row put

-- an operation was done, and its status can be asked for
pub record HasDoneOperation {N : Type 0} (old new : BusState N) (outcome : Outcome) : Type 0 where
  pub is : new ≡ record { nand = new.nand; geometry = old.geometry; stage = stage.Idle; held = []; status = status_of (is_passed outcome) }

-- the page that came in, without its codes
abbrev pub page_without_codes : Geometry → List ℕ → Page
page_without_codes g held = page (take g.data_bytes held) (take g.spare_bytes (drop g.data_bytes held))

pub record HasDoneProgram {N : Type 0} (flash : N → Flash) (honest : N → Bool) (row : ℕ) (old new : BusState N) : Type 0 where
  pub outcome : Outcome
  pub done : HasDoneOperation old new outcome
  pub did : honest old.nand ≡ true → Did (λ passed s. Program row (page_without_codes old.geometry old.held) passed (page_at s row)) (flash old.nand) (flash new.nand) outcome

pub record HasDoneErase {N : Type 0} (flash : N → Flash) (honest : N → Bool) (block : ℕ) (old new : BusState N) : Type 0 where
  pub outcome : Outcome
  pub done : HasDoneOperation old new outcome
  pub did : honest old.nand ≡ true → Did (λ passed s. Erase block passed (block_at s block)) (flash old.nand) (flash new.nand) outcome

-- those that begin: a read, an erase, a program
abbrev pub is_beginning : ℕ → Bool
is_beginning code = (code == 0x00) || ((code == 0x60) || (code == 0x80))

-- the codes of all commands
abbrev pub is_chip_command : ℕ → Bool
is_chip_command code = is_beginning code || ((code == 0x70) || ((code == 0xFF) || ((code == 0x30) || ((code == 0x10) || (code == 0xD0)))))

-- A command that was taken, by its code. A command that begins is taken at any time; one that confirms follows its whole address.
pub record TakesCommand {N : Type 0} (flash : N → Flash) (honest : N → Bool) (code : ℕ) (old new : BusState N) : Type 0 where
  pub known : is_chip_command code ≡ true
  pub begins : is_beginning code ≡ true → new ≡ moved (stage.Address code 0 0) [] old
  pub shows : code ≡ 0x70 → new ≡ moved stage.Putting (old.status ∷ []) old
  pub resets : code ≡ 0xFF → new ≡ moved stage.Idle [] old
  pub reads : code ≡ 0x30 → (row : ℕ) × (old.stage ≡ stage.Address 0x00 5 row) × HasReadPage flash honest row old new
  pub programs : code ≡ 0x10 → (row : ℕ) × (old.stage ≡ stage.Loading row) × HasDoneProgram flash honest row old new
  pub erases : code ≡ 0xD0 → (row : ℕ) × (old.stage ≡ stage.Address 0x60 3 row) × HasDoneErase flash honest (row / old.geometry.pages) old new

-- ---- a cycle

-- a cycle that was taken, with what it put out
abbrev pub TakesCycle : {N : Type 0} → (N → Flash) → (N → Bool) → BusState N → Cycle → List ℕ → BusState N → Type 0
TakesCycle flash honest old (Command code) out new = (out ≡ []) × TakesCommand flash honest code old new
TakesCycle flash honest old (Address byte) out new = (out ≡ []) × (new ≡ moved (loading_at (address_after old.stage byte)) [] old)
TakesCycle flash honest old (DataIn bytes) out new = (out ≡ []) × (new ≡ moved old.stage (old.held ++ bytes) old)
TakesCycle flash honest old (DataOut count) out new = (count ≤ length old.held) × (out ≡ take count old.held) × (new ≡ moved old.stage (drop count old.held) old)

-- A CYCLE THAT WAS NOT TAKEN. One that is not due, or for which there is no room, changes nothing; a command that nobody knows gives up what was unfinished; and where
-- the chip failed all but the chip is so too
pub record RefusesCycle {N : Type 0} (fault : BusFault) (old new : BusState N) : Type 0 where
  pub untaken : fault ≢ Device → fault ≢ UnknownCommand → new ≡ old
  pub unknown : fault ≡ UnknownCommand → new ≡ moved stage.Idle [] old
  pub failed : fault ≡ Device → new ≡ record { nand = new.nand; geometry = old.geometry; stage = stage.Idle; held = []; status = old.status }

abbrev pub AnswersCycle : {N : Type 0} → (N → Flash) → (N → Bool) → BusState N → Cycle → Result (Unit {0}) BusFault → List ℕ → BusState N → Type 0
AnswersCycle flash honest old cycle (Ok x) out new = TakesCycle flash honest old cycle out new
AnswersCycle flash honest old cycle (Err fault) out new = RefusesCycle fault old new

-- whether the chip keeps its law stays, and its geometry; its faults do not fall
pub record KeepsLawAndGeometry {N : Type 0} (flash : N → Flash) (honest : N → Bool) (failed : N → ℕ) (old new : BusState N) : Type 0 where
  pub keeps : honest new.nand ≡ honest old.nand
  pub geometry : (flash new.nand).geometry ≡ (flash old.nand).geometry
  pub same : new.geometry ≡ old.geometry
  pub of : (flash old.nand).geometry ≡ old.geometry
  pub faults : failed old.nand ≤ failed new.nand

-- whatever it answers
pub record IsCalled {N : Type 0} (flash : N → Flash) (honest : N → Bool) (failed : N → ℕ) (old : BusState N) (cycle : Cycle) (answer : Result (Unit {0}) BusFault) (out : List ℕ) (new : BusState N) : Type 0 where
  pub answers : AnswersCycle flash honest old cycle answer out new
  pub stays : KeepsLawAndGeometry flash honest failed old new
