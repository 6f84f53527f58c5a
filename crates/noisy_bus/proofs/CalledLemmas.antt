-- A command that was taken, by its code; and cycles that were not.
use Rattle.std.proofs.Common.{◌≡◌, ◌==◌, ◌||◌, ℕ, ◌/◌, Bool, true, false, List, [], ◌∷◌, refl, sym, ap, ◌∙◌, subst, arith}
use Rattle.page_layout.specs.Flash.{Flash}
use Rattle.onfi_cycles.specs.declared.nand.BusFault.TheVariants.{OutOfTurn, ColumnRange, UnknownCommand, Device}
use Rattle.noisy_bus.specs.declared.stage.Stage.TheVariants as stage
use Rattle.noisy_bus.specs.Bus.{BusState, moved, is_beginning, is_chip_command, RefusesCycle, HasReadPage, HasDoneProgram, HasDoneErase, TakesCommand}

-- no code that begins is one of the others
not_both : (code other : ℕ) {A : Type 0} → is_beginning code ≡ true → code ≡ other → is_beginning other ≡ false → A
not_both code other {A} is same none = let clash : true ≡ false = sym is ∙ (ap is_beginning same ∙ none) in absurd (let no : ⊥ = cc in no)

-- whether a code is one of those that do not begin
abbrev rest : ℕ → Bool
rest code = (code == 0x70) || ((code == 0xFF) || ((code == 0x30) || ((code == 0x10) || (code == 0xD0))))

pub takes_begins : {N : Type 0} (flash : N → Flash) (honest : N → Bool) (code : ℕ) (old new : BusState N) → is_beginning code ≡ true → new ≡ moved (stage.Address code 0 0) [] old → TakesCommand flash honest code old new
takes_begins flash honest code old new is e = record {
  known = ap (λ b. b || rest code) is;
  begins = λ b. e;
  shows = λ c. not_both code 0x70 is c refl;
  resets = λ c. not_both code 0xFF is c refl;
  reads = λ c. not_both code 0x30 is c refl;
  programs = λ c. not_both code 0x10 is c refl;
  erases = λ c. not_both code 0xD0 is c refl;
}

pub takes_shows : {N : Type 0} (flash : N → Flash) (honest : N → Bool) (code : ℕ) (old new : BusState N) → code ≡ 0x70 → new ≡ moved stage.Putting (old.status ∷ []) old → TakesCommand flash honest code old new
takes_shows flash honest code old new is e = record {
  known = ap is_chip_command is;
  begins = λ b. not_both code 0x70 b is refl;
  shows = λ c. e;
  resets = λ c. absurd (omega (arith, is, c));
  reads = λ c. absurd (omega (arith, is, c));
  programs = λ c. absurd (omega (arith, is, c));
  erases = λ c. absurd (omega (arith, is, c));
}

pub takes_resets : {N : Type 0} (flash : N → Flash) (honest : N → Bool) (code : ℕ) (old new : BusState N) → code ≡ 0xFF → new ≡ moved stage.Idle [] old → TakesCommand flash honest code old new
takes_resets flash honest code old new is e = record {
  known = ap is_chip_command is;
  begins = λ b. not_both code 0xFF b is refl;
  shows = λ c. absurd (omega (arith, is, c));
  resets = λ c. e;
  reads = λ c. absurd (omega (arith, is, c));
  programs = λ c. absurd (omega (arith, is, c));
  erases = λ c. absurd (omega (arith, is, c));
}

pub takes_reads : {N : Type 0} (flash : N → Flash) (honest : N → Bool) (code : ℕ) (old new : BusState N) → code ≡ 0x30 → (row : ℕ) × (old.stage ≡ stage.Address 0x00 5 row) × HasReadPage flash honest row old new → TakesCommand flash honest code old new
takes_reads flash honest code old new is e = record {
  known = ap is_chip_command is;
  begins = λ b. not_both code 0x30 b is refl;
  shows = λ c. absurd (omega (arith, is, c));
  resets = λ c. absurd (omega (arith, is, c));
  reads = λ c. e;
  programs = λ c. absurd (omega (arith, is, c));
  erases = λ c. absurd (omega (arith, is, c));
}

pub takes_programs : {N : Type 0} (flash : N → Flash) (honest : N → Bool) (code : ℕ) (old new : BusState N) → code ≡ 0x10 → (row : ℕ) × (old.stage ≡ stage.Loading row) × HasDoneProgram flash honest row old new → TakesCommand flash honest code old new
takes_programs flash honest code old new is e = record {
  known = ap is_chip_command is;
  begins = λ b. not_both code 0x10 b is refl;
  shows = λ c. absurd (omega (arith, is, c));
  resets = λ c. absurd (omega (arith, is, c));
  reads = λ c. absurd (omega (arith, is, c));
  programs = λ c. e;
  erases = λ c. absurd (omega (arith, is, c));
}

pub takes_erases : {N : Type 0} (flash : N → Flash) (honest : N → Bool) (code : ℕ) (old new : BusState N) → code ≡ 0xD0 → (row : ℕ) × (old.stage ≡ stage.Address 0x60 3 row) × HasDoneErase flash honest (row / old.geometry.pages) old new → TakesCommand flash honest code old new
takes_erases flash honest code old new is e = record {
  known = ap is_chip_command is;
  begins = λ b. not_both code 0xD0 b is refl;
  shows = λ c. absurd (omega (arith, is, c));
  resets = λ c. absurd (omega (arith, is, c));
  reads = λ c. absurd (omega (arith, is, c));
  programs = λ c. absurd (omega (arith, is, c));
  erases = λ c. e;
}

-- ---- a cycle that was not taken

pub not_due : {N : Type 0} (old new : BusState N) → new ≡ old → RefusesCycle OutOfTurn old new
not_due old new e = record { untaken = λ a b. e; unknown = λ c. absurd (let no : ⊥ = cc in no); failed = λ c. absurd (let no : ⊥ = cc in no) }

pub no_room : {N : Type 0} (old new : BusState N) → new ≡ old → RefusesCycle ColumnRange old new
no_room old new e = record { untaken = λ a b. e; unknown = λ c. absurd (let no : ⊥ = cc in no); failed = λ c. absurd (let no : ⊥ = cc in no) }

pub not_known : {N : Type 0} (old new : BusState N) → new ≡ moved stage.Idle [] old → RefusesCycle UnknownCommand old new
not_known old new e = record { untaken = λ a b. absurd (b refl); unknown = λ c. e; failed = λ c. absurd (let no : ⊥ = cc in no) }

pub chip_failed : {N : Type 0} (old new : BusState N) → new ≡ record { nand = new.nand; geometry = old.geometry; stage = stage.Idle; held = []; status = old.status } → RefusesCycle Device old new
chip_failed old new e = record { untaken = λ a b. absurd (a refl); unknown = λ c. absurd (let no : ⊥ = cc in no); failed = λ c. e }
