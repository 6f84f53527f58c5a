-- The rules of turns.
use Rattle.std.proofs.Common.{◌≡◌, ◌≢◌, ℕ, true, false, ◌==◌, refl, sym, ◌∙◌, ap, subst, ◌⊎◌, inl, inr, List, [], ◌/◌, if◌then◌else◌}
use Rattle.std.proofs.lemmas.Bool.{ne_eqb}
use Rattle.page_layout.specs.declared.geometry.Geometry.{Geometry}
use Rattle.onfi_cycles.specs.declared.nand.BusFault.{BusFault}
use Rattle.onfi_cycles.specs.declared.nand.BusFault.TheVariants.{NoReset, UnknownCommand, OutOfTurn, AddressRange, ColumnRange, Device}
use Rattle.onfi_cycles.specs.Cycles.{DieState, Phase, Unreset, Ready, Taking, Confirming, Loading, Output, PageOut, Purpose, ForRead, ForProgram}
use Rattle.onfi_cycles.specs.Cycles.{ForErase, ForReadColumn, ForWriteColumn, ForIdentity, Command, Address, DataIn, DataOut, Does, FailsBy, Due}
use Rattle.onfi_cycles.specs.Cycles.{Moves, Resets, Programs, Erases, Refuses, due_of, command_due, command_due', address_due, data_in_due}
use Rattle.onfi_cycles.specs.Cycles.{data_out_due, is_known, not_due, page_of, given_up, to_phase}
use Rattle.onfi_cycles.specs.Laws.{ResetLaw, NoResetLaw, UnknownLaw, TakenLaw, RefusedLaw, GivenUpLaw}

pub reset_law : ResetLaw
unfolding command_due
reset_law g phase = refl

-- ---- before the first Reset

other_code : (code k : ℕ) → code ≢ k → (code == k) ≡ false
other_code code k ne = ne_eqb code k ne

command_unreset : (g : Geometry) (code : ℕ) → Command code ≢ Command 0xFF → command_due g Unreset code ≡ Refuses NoReset
unfolding command_due
command_unreset g code ne = rw (other_code code 0xFF (λ e. ne (ap (λ n. Command n) e))) refl

pub no_reset_law : NoResetLaw
unfolding address_due data_in_due data_out_due
no_reset_law g (Command code) ne = command_unreset g code ne
no_reset_law g (Address byte) ne = refl
no_reset_law g (DataIn bytes) ne = refl
no_reset_law g (DataOut count) ne = refl

-- ---- unknown codes

unlike : (code k : ℕ) → is_known k ≡ true → is_known code ≡ false → (code == k) ≡ false
unlike code k known unknown = other_code code k (λ e. let c : true ≡ false = sym known ∙ (ap is_known (sym e) ∙ unknown) in cc)

not_due_unknown : (code : ℕ) → is_known code ≡ false → not_due code ≡ Refuses UnknownCommand
not_due_unknown code unknown = ap (λ b. if b then Refuses OutOfTurn else Refuses UnknownCommand) unknown

ready_unknown : (g : Geometry) (out : Output) (code : ℕ) → is_known code ≡ false → command_due' g (Ready out) code ≡ Refuses UnknownCommand
ready_unknown g out code unknown =
    let u : (k : ℕ) → is_known k ≡ true → (code == k) ≡ false = λ k known. unlike code k known unknown in
    rw (u 0x00 refl, u 0x05 refl, u 0x10 refl, u 0x30 refl, u 0x60 refl, u 0x70 refl, u 0x80 refl, u 0x85 refl, u 0x90 refl, u 0xD0 refl, u 0xE0 refl, u 0xFF refl) refl

-- the one command that is due after an address
after_unknown : (code k : ℕ) (due : Due) → is_known k ≡ true → is_known code ≡ false → (if code == k then due else not_due code) ≡ Refuses UnknownCommand
after_unknown code k due known unknown = ap (λ b. if b then due else not_due code) (unlike code k known unknown) ∙ not_due_unknown code unknown

confirm_unknown : (g : Geometry) (purpose : Purpose) (row column code : ℕ) → is_known code ≡ false → command_due' g (Confirming purpose row column) code ≡ Refuses UnknownCommand
confirm_unknown g ForRead row column code unknown = after_unknown code 0x30 (Moves (Ready (PageOut row column))) refl unknown
confirm_unknown g ForProgram row column code unknown = not_due_unknown code unknown
confirm_unknown g ForErase row column code unknown = after_unknown code 0xD0 (Erases (row / g.pages)) refl unknown
confirm_unknown g (ForReadColumn r) row column code unknown = after_unknown code 0xE0 (Moves (Ready (PageOut row column))) refl unknown
confirm_unknown g (ForWriteColumn r register) row column code unknown = not_due_unknown code unknown
confirm_unknown g ForIdentity row column code unknown = not_due_unknown code unknown

load_unknown : (g : Geometry) (row column : ℕ) (register : List ℕ) (code : ℕ) → is_known code ≡ false → command_due' g (Loading row column register) code ≡ Refuses UnknownCommand
load_unknown g row column register code unknown =
    ap (λ b. if b then Programs row (page_of g register) else if code == 0x85 then Moves (Taking (ForWriteColumn row register) []) else not_due code) (unlike code 0x10 refl unknown)
    ∙ after_unknown code 0x85 (Moves (Taking (ForWriteColumn row register) [])) refl unknown

other_unknown : (g : Geometry) (phase : Phase) (code : ℕ) → phase ≢ Unreset → is_known code ≡ false → command_due' g phase code ≡ Refuses UnknownCommand
other_unknown g Unreset code ne unknown = absurd (ne refl)
other_unknown g (Ready out) code ne unknown = ready_unknown g out code unknown
other_unknown g (Taking purpose got) code ne unknown = not_due_unknown code unknown
other_unknown g (Confirming purpose row column) code ne unknown = confirm_unknown g purpose row column code unknown
other_unknown g (Loading row column register) code ne unknown = load_unknown g row column register code unknown

pub unknown_law : UnknownLaw
unfolding command_due
unknown_law g phase code ne unknown = ap (λ b. if b then Resets else command_due' g phase code) (unlike code 0xFF refl unknown) ∙ other_unknown g phase code ne unknown

-- ---- one answer a cycle

refusal_of : (due : Due) (old new : DieState) (fault : BusFault) → FailsBy due old new fault → fault ≢ Device → (due ≡ Refuses fault) × (new ≡ to_phase (given_up old.phase) old)
refusal_of due old new NoReset h ne = h
refusal_of due old new UnknownCommand h ne = h
refusal_of due old new OutOfTurn h ne = h
refusal_of due old new AddressRange h ne = h
refusal_of due old new ColumnRange h ne = h
refusal_of due old new Device h ne = absurd (ne refl)

pub given_up_law : GivenUpLaw
given_up_law old new cycle fault h ne = (refusal_of (due_of old.flash.geometry old.phase cycle) old new fault h ne).1

same_fault : (f g : BusFault) → Refuses f ≡ Refuses g → f ≡ g
same_fault f g e = cc

pub refused_law : RefusedLaw
refused_law old a b cycle f g one two nf ng =
    let x = refusal_of (due_of old.flash.geometry old.phase cycle) old a f one nf in
    let y = refusal_of (due_of old.flash.geometry old.phase cycle) old b g two ng in
    (same_fault f g (sym x.0 ∙ y.0), x.1 ∙ sym y.1)

refused_does : (due : Due) (old new : DieState) (fault : BusFault) → Does due old new → due ≡ Refuses fault → ⊥
refused_does due old new fault does e = subst (λ d. Does d old new) e does

-- whether a fault is the device's
is_device : (fault : BusFault) → (fault ≡ Device) ⊎ (fault ≢ Device)
is_device NoReset = inr (λ e. cc)
is_device UnknownCommand = inr (λ e. cc)
is_device OutOfTurn = inr (λ e. cc)
is_device AddressRange = inr (λ e. cc)
is_device ColumnRange = inr (λ e. cc)
is_device Device = inl refl

pub taken_law : TakenLaw
taken_law old new other cycle fault does fails =
    elim (is_device fault) [
      | inl e ↦ e
      | inr ne ↦ absurd (refused_does (due_of old.flash.geometry old.phase cycle) old new fault does (refusal_of (due_of old.flash.geometry old.phase cycle) old other fault fails ne).0)
    ]
