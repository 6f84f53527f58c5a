-- A DIE OF ONE OF TWO KINDS behind a link: one whose pages read back as they were programmed, or one over a chip whose pages have codes. It is what the one that it holds is.
use Rattle.std.specs.Prelude.{◌≡◌, ◌⊎◌, ℕ, Bool, false, true, List, [], Option, Some, None, IsSome, Result}
use Rattle.page_layout.specs.declared.geometry.Geometry.{Geometry}
use Rattle.page_layout.specs.Flash.{Flash}
use Rattle.page_layout.specs.Recording.{Recording}
use Rattle.page_layout.specs.View.{View}
use Rattle.page_layout.specs.DieCalls.{DieCall}
use Rattle.onfi_cycles.specs.declared.nand.BusFault.{BusFault}
use Rattle.onfi_cycles.specs.Called.{driver_called}
use Rattle.onfi_cycles.specs.Cycles.{Command, DieState, IsCounted}
use Rattle.onfi_cycles.specs.Driver.{DriverState, flash_by, seen}
use Rattle.onfi_cycles.specs.Spelling.{done, refused}
use Rattle.page_code.specs.declared.chip.ChipGeometry.{ChipGeometry}
use Rattle.corrected_nand.specs.Errors.{no_errors}
use Rattle.corrected_nand.specs.ChipBus.{ChipDriverState}
use Rattle.corrected_nand.specs.Corrected.{CorrectedState, corrected_called}
use Rattle.corrected_nand.specs.Driven.{ChipReads, ChipPrograms, ChipErases}
use Rattle.corrected_nand.specs.Shown.{clean_flash, clean_told}
use Rattle.stream_bus.specs.Behind.{Behind}
use Rattle.stream_bus.specs.Carried.{CalledBehind, SentAsFrame}
use Rattle.ftl_disk.specs.declared.either.EitherDie.{EitherDie}
use Rattle.ftl_disk.specs.declared.either.EitherDie.TheVariants.{Plain, Coded}
use Rattle.ftl_disk.specs.declared.plan.Plan.{Plan}

abbrev pub PlainDie : Type 0 → Type 0
PlainDie L = DriverState (Behind L)

abbrev pub CodedDie : Type 0 → Type 0
CodedDie L = CorrectedState (ChipDriverState (Behind L))

-- what a link says of one exchange
abbrev pub AskedOfLink : Type 0 → Type 1
AskedOfLink L = L → List ℕ → List ℕ → ℕ → List ℕ → L → Type 0

abbrev pub of_either : {L A : Type 0} → (PlainDie L → A) → (CodedDie L → A) → EitherDie L → A
of_either plain coded (Plain die) = plain die
of_either plain coded (Coded die) = coded die

-- what stands in it, by the die at the other end of the link, or by the chip there without the codes
abbrev pub flash_of_either : {L : Type 0} → (L → DieState) → (L → Flash) → EitherDie L → Flash
flash_of_either die chip d = of_either (λ p. flash_by (λ b. die b.link) p) (λ c. clean_flash (seen c.nand.geometry (chip c.nand.driver.bus.link))) d

-- whether it is honest, by the link's honesty, or by whether that keeps the law of such a chip
abbrev pub honest_of_either : {L : Type 0} → (L → Bool) → (L → Bool) → EitherDie L → Bool
honest_of_either honest keeps d = of_either (λ p. honest p.bus.link) (λ c. keeps c.nand.driver.bus.link) d

-- the record of what its driver did; of a chip with codes that of the pages without them
abbrev pub recorded_of_either : {L : Type 0} → EitherDie L → Option Recording
recorded_of_either d = of_either (λ p. Some p.told) (λ c. clean_told c.geometry (Some c.nand.told)) d

-- what it counts
abbrev pub reads_of_either : {L : Type 0} → EitherDie L → ℕ
reads_of_either d = of_either (λ p. p.reads) (λ c. c.reads) d

abbrev pub programs_of_either : {L : Type 0} → EitherDie L → ℕ
programs_of_either d = of_either (λ p. p.programs) (λ c. c.programs) d

abbrev pub erases_of_either : {L : Type 0} → EitherDie L → ℕ
erases_of_either d = of_either (λ p. p.erases) (λ c. c.erases) d

abbrev pub failed_of_either : {L : Type 0} → EitherDie L → ℕ
failed_of_either d = of_either (λ p. p.failures) (λ c. c.failures) d

-- what a die over a chip with codes says of a call: which cycles its driver sent over the link
abbrev pub coded_called : {L : Type 0} → (chip : L → Flash) → AskedOfLink L → CodedDie L → DieCall → CodedDie L → Type 0
coded_called chip called = corrected_called (λ old row answer put new. ChipReads (CalledBehind called) row answer put old new) (λ old row p answer new. ChipPrograms (λ b. chip b.link) (CalledBehind called) row p answer old new)
    (λ old block answer new. ChipErases (λ b. chip b.link) (CalledBehind called) block answer old new)

-- what it says of a call: what the one that it holds says, and it goes on holding that
abbrev pub called_of_either : {L : Type 0} → (L → DieState) → (chip : L → Flash) → (L → Bool) → AskedOfLink L → EitherDie L → DieCall → EitherDie L → Type 0
called_of_either die chip honest called (Plain old) call (Plain new) = driver_called (λ b. die b.link) (λ b. honest b.link) (CalledBehind called) old call new
called_of_either die chip honest called (Coded old) call (Coded new) = coded_called chip called old call new
called_of_either die chip honest called (Plain old) call (Coded new) = ⊥
called_of_either die chip honest called (Coded old) call (Plain new) = ⊥

-- what contracts say of it
abbrev pub either_view : {L : Type 0} → (L → DieState) → (chip : L → Flash) → (honest keeps : L → Bool) → AskedOfLink L → View (EitherDie L)
either_view die chip honest keeps called = record {
  flash = flash_of_either die chip;
  recorded = recorded_of_either;
  honest = honest_of_either honest keeps;
  calm = λ _. false;
  reads = reads_of_either;
  programs = programs_of_either;
  erases = erases_of_either;
  failed = failed_of_either;
  called = λ old call new. called_of_either die chip honest called old call new;
}

-- ---- a Reset over a link

-- a link to a die of this plan: to one of its geometry, or to a chip of that with codes
pub record LeadsTo {L : Type 0} (die : L → DieState) (chip : L → Flash) (honest keeps : L → Bool) (p : Plan) (link : L) : Type 0 where
  pub plain : p.chip ≡ None → honest link ≡ true → (die link).flash.geometry ≡ p.geometry
  pub raw : (c : ChipGeometry) → p.chip ≡ Some c → honest link ≡ true → (die link).flash.geometry ≡ c.raw
  pub clean : (c : ChipGeometry) → p.chip ≡ Some c → keeps link ≡ true → (chip link).geometry ≡ p.geometry

-- a die whose pages read back as they were programmed: its link took Reset, and it has counted nothing
pub record IsPlainFor {L : Type 0} (called : AskedOfLink L) (p : Plan) (link : L) (die : PlainDie L) : Type 0 where
  pub none : p.chip ≡ None
  pub reset : SentAsFrame called link (Command 0xFF) done [] die.bus.link
  pub geometry : die.geometry ≡ p.geometry
  pub fresh : die.failures ≡ 0

-- one over a chip of this geometry: the same
pub record IsCodedFor {L : Type 0} (called : AskedOfLink L) (p : Plan) (link : L) (die : CodedDie L) : Type 0 where
  pub chip : p.chip ≡ Some (record { raw = die.nand.driver.geometry })
  pub reset : SentAsFrame called link (Command 0xFF) done [] die.nand.driver.bus.link
  pub geometry : die.nand.geometry ≡ p.geometry
  pub fresh : die.failures ≡ 0
  pub errors : die.errors ≡ no_errors p.geometry.blocks

-- A DIE FOR A PLAN, after Reset: with codes or without, as the plan says
abbrev pub IsDieFor : {L : Type 0} → AskedOfLink L → Plan → L → EitherDie L → Type 0
IsDieFor called p link (Plain die) = IsPlainFor called p link die
IsDieFor called p link (Coded die) = IsCodedFor called p link die

-- THE LINK FAILED: Reset was asked of it and refused, by a device's failure only where that was counted
pub record IsLinkLost {L : Type 0} (called : AskedOfLink L) (link : L) : Type 0 where
  pub fault : BusFault
  pub after : Behind L
  pub reset : SentAsFrame called link (Command 0xFF) (refused fault) [] after.link
  pub counted : IsCounted 0 after.failures fault

-- why there is none: 6, where the link failed; or 4, where of a chip with codes memory was refused
abbrev pub IsUnreset : {L : Type 0} → AskedOfLink L → Plan → L → (number : ℕ) → Type 0
IsUnreset called p link number = ((number ≡ 6) × IsLinkLost called link) ⊎ ((number ≡ 4) × IsSome p.chip)
