-- A driver's word for one call, by what it came to.
use Rattle.std.proofs.Common.{◌≡◌, ◌<◌, ℕ, Bool, true, List, length, refl, Result}
use Rattle.std.specs.Prelude.{IfOk, MatchResult, is_ok}
use Rattle.page_layout.specs.declared.source.SourceFault.{SourceFault}
use Rattle.page_layout.specs.Flash.{Erase, Program, Steps, block_at, page_at}
use Rattle.page_layout.specs.Geometry.{row_count}
use Rattle.page_layout.specs.Page.{Page}
use Rattle.page_layout.specs.Recording.{asked_erase, asked_program}
use Rattle.onfi_cycles.specs.declared.nand.BusFault.{BusFault}
use Rattle.onfi_cycles.specs.declared.nand.Outcome.{Outcome}
use Rattle.onfi_cycles.specs.Outcomes.{is_passed, passed_in}
use Rattle.onfi_cycles.specs.Called.{DriverErases, DriverPrograms, DriverReads}
use Rattle.onfi_cycles.specs.Cycles.{Cycle, DieState}
use Rattle.onfi_cycles.specs.Driver.{DriverState, cut_in, flash_by, gained}
use Rattle.onfi_cycles.specs.Sent.{Operates, SendsRead}
use Rattle.onfi_cycles.specs.Spelling.{erase_cycles, program_cycles, read_cycles}

module _ {B : Type 0} (called : B → Cycle → Result (Unit {0}) BusFault → List ℕ → B → Type 0) (old new : DriverState B) where
  pub reads_so : (row : ℕ) (out : List ℕ) (result : Result (Unit {0}) SourceFault) → row < row_count old.geometry → SendsRead called old.bus (read_cycles row old.geometry.data_bytes old.geometry.spare_bytes) out result new.bus → new.told ≡ old.told
      → new.geometry ≡ old.geometry → DriverReads called row (is_ok result) old new
  reads_so row out result within sends told geometry = record { in_range = within; out = out; result = result; answer = refl; sends = sends; told = told; geometry = geometry }

  pub programs_so : (die : B → DieState) (honest : B → Bool) (row : ℕ) (its : Page) (result : Result Outcome BusFault) → row < row_count old.geometry → length its.body ≡ old.geometry.data_bytes → length its.spare ≡ old.geometry.spare_bytes
      → Operates called old.bus (program_cycles row its.body its.spare) result new.bus
      → IfOk result (λ outcome. honest old.bus ≡ true → Steps (flash_by die old) (Program row its (is_passed outcome) (page_at (flash_by die new) row)) (flash_by die new))
      → MatchResult result (λ outcome. new.told ≡ gained (Program row its (is_passed outcome) (page_at (flash_by die new) row)) old.told) (λ fault. new.told ≡ cut_in (asked_program row its) old.told) → new.geometry ≡ old.geometry
      → DriverPrograms die honest called row its (passed_in result) old new
  programs_so die honest row its result within body spare sends step told geometry =
      record { in_range = within; body_whole = body; spare_whole = spare; result = result; answer = refl; sends = sends; step = step; told = told; geometry = geometry }

  pub erases_so : (die : B → DieState) (honest : B → Bool) (block : ℕ) (result : Result Outcome BusFault) → block < old.geometry.blocks → Operates called old.bus (erase_cycles old.geometry block) result new.bus
      → IfOk result (λ outcome. honest old.bus ≡ true → Steps (flash_by die old) (Erase block (is_passed outcome) (block_at (flash_by die new) block)) (flash_by die new))
      → MatchResult result (λ outcome. new.told ≡ gained (Erase block (is_passed outcome) (block_at (flash_by die new) block)) old.told) (λ fault. new.told ≡ cut_in (asked_erase old.geometry block) old.told) → new.geometry ≡ old.geometry
      → DriverErases die honest called block (passed_in result) old new
  erases_so die honest block result within sends step told geometry = record { in_range = within; result = result; answer = refl; sends = sends; step = step; told = told; geometry = geometry }
