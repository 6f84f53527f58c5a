-- A DRIVER'S WORD FOR ITS CALLS: which cycles it sent, what they came to, and what its record gained or has at hand.
use Rattle.std.specs.Prelude.{◌≡◌, ◌<◌, ℕ, Bool, true, List, ◌++◌, length, Option, Result, IfOk, MatchResult, is_ok}
use Rattle.page_layout.specs.Geometry.{row_count}
use Rattle.page_layout.specs.Page.{Page}
use Rattle.page_layout.specs.DieCalls.{DieCall, ReadCall, ProgramCall, EraseCall}
use Rattle.page_layout.specs.declared.source.SourceFault.{SourceFault}
use Rattle.page_layout.specs.Flash.{Program, Erase, Steps, block_at, page_at}
use Rattle.page_layout.specs.Recording.{asked_erase, asked_program}
use Rattle.onfi_cycles.specs.declared.nand.BusFault.{BusFault}
use Rattle.onfi_cycles.specs.declared.nand.Outcome.{Outcome}
use Rattle.onfi_cycles.specs.Outcomes.{is_passed, passed_in}
use Rattle.onfi_cycles.specs.Cycles.{Cycle, DieState}
use Rattle.onfi_cycles.specs.Driver.{DriverState, cut_in, flash_by, gained}
use Rattle.onfi_cycles.specs.Sent.{Operates, SendsRead}
use Rattle.onfi_cycles.specs.Spelling.{erase_cycles, program_cycles, read_cycles}

-- A PAGE READ
pub record DriverReads {B : Type 0} (called : B → Cycle → Result (Unit {0}) BusFault → List ℕ → B → Type 0) (row : ℕ) (answered : Bool) (old new : DriverState B) : Type 0 where
  pub in_range : row < row_count old.geometry
  pub out : List ℕ
  pub result : Result (Unit {0}) SourceFault
  pub answer : is_ok result ≡ answered
  pub sends : SendsRead called old.bus (read_cycles row old.geometry.data_bytes old.geometry.spare_bytes) out result new.bus
  pub told : new.told ≡ old.told
  pub geometry : new.geometry ≡ old.geometry

-- A PROGRAM OF A PAGE
pub record DriverPrograms {B : Type 0} (die : B → DieState) (honest : B → Bool) (called : B → Cycle → Result (Unit {0}) BusFault → List ℕ → B → Type 0) (row : ℕ) (its : Page) (passed : Option Bool)
    (old new : DriverState B) : Type 0 where
  pub in_range : row < row_count old.geometry
  pub body_whole : length its.body ≡ old.geometry.data_bytes
  pub spare_whole : length its.spare ≡ old.geometry.spare_bytes
  pub result : Result Outcome BusFault
  pub answer : passed_in result ≡ passed
  pub sends : Operates called old.bus (program_cycles row its.body its.spare) result new.bus
  pub step : IfOk result (λ outcome. honest old.bus ≡ true → Steps (flash_by die old) (Program row its (is_passed outcome) (page_at (flash_by die new) row)) (flash_by die new))
  pub told : MatchResult result (λ outcome. new.told ≡ gained (Program row its (is_passed outcome) (page_at (flash_by die new) row)) old.told) (λ fault. new.told ≡ cut_in (asked_program row its) old.told)
  pub geometry : new.geometry ≡ old.geometry

-- AN ERASE OF A BLOCK
pub record DriverErases {B : Type 0} (die : B → DieState) (honest : B → Bool) (called : B → Cycle → Result (Unit {0}) BusFault → List ℕ → B → Type 0) (block : ℕ) (passed : Option Bool)
    (old new : DriverState B) : Type 0 where
  pub in_range : block < old.geometry.blocks
  pub result : Result Outcome BusFault
  pub answer : passed_in result ≡ passed
  pub sends : Operates called old.bus (erase_cycles old.geometry block) result new.bus
  pub step : IfOk result (λ outcome. honest old.bus ≡ true → Steps (flash_by die old) (Erase block (is_passed outcome) (block_at (flash_by die new) block)) (flash_by die new))
  pub told : MatchResult result (λ outcome. new.told ≡ gained (Erase block (is_passed outcome) (block_at (flash_by die new) block)) old.told) (λ fault. new.told ≡ cut_in (asked_erase old.geometry block) old.told)
  pub geometry : new.geometry ≡ old.geometry

-- one call of it
abbrev pub driver_called : {B : Type 0} → (B → DieState) → (honest : B → Bool) → (B → Cycle → Result (Unit {0}) BusFault → List ℕ → B → Type 0) → DriverState B → DieCall → DriverState B → Type 0
driver_called die honest called old (ReadCall row answered) new = DriverReads called row answered old new
driver_called die honest called old (ProgramCall row its passed) new = DriverPrograms die honest called row its passed old new
driver_called die honest called old (EraseCall block passed) new = DriverErases die honest called block passed old new
