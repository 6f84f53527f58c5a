-- WHAT A CALL OF A DRIVER FOR A CHIP CAME TO, whatever the bus does: which cycles were sent, and no other; the answer, which is what they came to; what its record gained or
-- has at hand; and that each fault is counted once.
use Rattle.std.specs.Prelude.{◌≡◌, ℕ, List, ◌++◌, take, Result, OnOk, OnErr}
use Rattle.page_layout.specs.declared.source.SourceFault.{SourceFault}
use Rattle.page_layout.specs.Counter.{counted}
use Rattle.page_layout.specs.Page.{Page, page}
use Rattle.page_layout.specs.Flash.{Flash, Program, Erase, block_at, page_at}
use Rattle.page_layout.specs.Recording.{asked_erase, asked_program}
use Rattle.onfi_cycles.specs.declared.nand.BusFault.{BusFault}
use Rattle.onfi_cycles.specs.declared.nand.Outcome.{Outcome}
use Rattle.onfi_cycles.specs.Outcomes.{is_passed}
use Rattle.onfi_cycles.specs.Cycles.{Cycle}
use Rattle.onfi_cycles.specs.Driver.{seen}
use Rattle.onfi_cycles.specs.Sent.{Operates, SendsRead}
use Rattle.onfi_cycles.specs.Spelling.{erase_cycles, program_cycles, read_cycles}
use Rattle.page_code.specs.Layout.{outer_bytes}
use Rattle.corrected_nand.specs.ChipBus.{ChipDriverState}
use Rattle.corrected_nand.specs.Told.{gained_by}

-- what every call leaves: a fault is counted once, nothing else is, and the two geometries stay
pub record KeepsDriver {A E B : Type 0} (answer : Result A E) (old new : ChipDriverState B) : Type 0 where
  pub kept : OnOk answer (new.driver.failures ≡ old.driver.failures)
  pub counts : OnErr answer (new.driver.failures ≡ counted old.driver.failures)
  pub chip : new.driver.geometry ≡ old.driver.geometry
  pub geometry : new.geometry ≡ old.geometry

-- A PAGE READ, with what was put out. The record stays.
pub record ChipReads {B : Type 0} (called : B → Cycle → Result (Unit {0}) BusFault → List ℕ → B → Type 0) (row : ℕ) (answer : Result (Unit {0}) SourceFault) (put : Page) (old new : ChipDriverState B) : Type 0 where
  pub sends : SendsRead called old.driver.bus (read_cycles row old.geometry.data_bytes (outer_bytes old.geometry)) (put.body ++ put.spare) answer new.driver.bus
  pub told : new.told ≡ old.told
  pub keeps : KeepsDriver answer old new

-- A PROGRAM OF A PAGE with its codes
pub record ChipPrograms {B : Type 0} (chip : B → Flash) (called : B → Cycle → Result (Unit {0}) BusFault → List ℕ → B → Type 0) (row : ℕ) (p : Page) (answer : Result Outcome BusFault) (old new : ChipDriverState B) : Type 0 where
  pub sends : Operates called old.driver.bus (program_cycles row p.body p.spare) answer new.driver.bus
  pub told : new.told ≡ gained_by answer (λ outcome. Program row (page p.body (take old.geometry.spare_bytes p.spare)) (is_passed outcome) (page_at (chip new.driver.bus) row)) (asked_program row (page p.body (take old.geometry.spare_bytes p.spare))) old.told
  pub keeps : KeepsDriver answer old new

-- AN ERASE OF A BLOCK
pub record ChipErases {B : Type 0} (chip : B → Flash) (called : B → Cycle → Result (Unit {0}) BusFault → List ℕ → B → Type 0) (block : ℕ) (answer : Result Outcome BusFault) (old new : ChipDriverState B) : Type 0 where
  pub sends : Operates called old.driver.bus (erase_cycles old.driver.geometry block) answer new.driver.bus
  pub told : new.told ≡ gained_by answer (λ outcome. Erase block (is_passed outcome) (block_at (seen old.geometry (chip new.driver.bus)) block)) (asked_erase old.geometry block) old.told
  pub keeps : KeepsDriver answer old new
