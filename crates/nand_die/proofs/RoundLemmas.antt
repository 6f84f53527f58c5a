-- What a call of a bus round another says of itself, by the contract of a bus: of a fuse that is blown or hands it on, and of a garble.
use Rattle.std.proofs.Common.{◌≡◌, ◌≤◌, ℕ, ◌+◌, ◌-◌, ◌^◌, true, false, List, refl, sym, ◌∙◌, ap, subst, arith, inl, inr}
use Rattle.std.proofs.Common.{Ok, Err, if◌then◌else◌}
use Rattle.std.specs.Prelude.{Result, OnOk, IfErr, min}
use Rattle.std.proofs.lemmas.Bool.{both_ways, cases_lt, false≢true}
use Rattle.page_layout.specs.Counter.{counted, HasRisen}
use Rattle.onfi_cycles.specs.declared.nand.BusFault.{BusFault}
use Rattle.onfi_cycles.specs.declared.nand.BusFault.TheVariants.{Device}
use Rattle.onfi_cycles.specs.Cycles.{Cycle, IsCounted}
use Rattle.onfi_cycles.specs.Spelling.{refused}
use Rattle.nand_die.specs.Buses.{FuseState, Fused, is_blown, GarbleState, with_outs}

-- ---- a bus that is not honest

pub never_ok : (r : Result (Unit {0}) BusFault) (P : Type 0) → OnOk r (false ≡ true → P)
never_ok (Ok x) P = λ whole. absurd (false≢true whole)
never_ok (Err fault) P = tt

pub never_err : (r : Result (Unit {0}) BusFault) (P : BusFault → Type 0) → IfErr r (λ fault. false ≡ true → P fault)
never_err (Ok x) P = tt
never_err (Err fault) P = λ whole. absurd (false≢true whole)

-- ---- a fuse: its own faults beside those of the bus

-- both together
abbrev total : {B : Type 0} → (B → ℕ) → FuseState B → ℕ
total failed f = min (failed f.bus + f.failures) (2 ^ 64 - 1)

-- the next call was counted
abbrev burnt : {B : Type 0} → FuseState B → FuseState B
burnt f = if is_blown f then record { bus = f.bus; passed = f.passed; failing = f.failing - 1; failures = counted f.failures } else record { bus = f.bus; passed = f.passed - 1; failing = f.failing; failures = f.failures }

-- a call of a fuse, and its faults
pub record Handed {B : Type 0} (failed : B → ℕ) (on_bus : B → Cycle → Result (Unit {0}) BusFault → List ℕ → B → Type 0) (old : FuseState B) (cycle : Cycle) (r : Result (Unit {0}) BusFault) (out : List ℕ) (new : FuseState B) : Type 0 where
  pub called : Fused on_bus old cycle r out new
  pub rises : total failed old ≤ total failed new
  pub rose : IfErr r (IsCounted (total failed old) (total failed new))

own_rise : (m n : ℕ) → HasRisen (min (m + n) (2 ^ 64 - 1)) (min (m + counted n) (2 ^ 64 - 1))
own_rise m n = elim (cases_lt (m + counted n) (2 ^ 64 - 1)) [
  | inl below ↦ inl (omega arith)
  | inr top ↦ inr (omega arith)
]

bus_rise : (r : Result (Unit {0}) BusFault) (m k n : ℕ) → IfErr r (IsCounted m k) → IfErr r (IsCounted (min (m + n) (2 ^ 64 - 1)) (min (k + n) (2 ^ 64 - 1)))
bus_rise (Ok x) m k n rose = tt
bus_rise (Err fault) m k n rose = λ device. elim (rose device) [
  | inl more ↦ elim (cases_lt (k + n) (2 ^ 64 - 1)) [
    | inl below ↦ inl (omega arith)
    | inr top ↦ inr (omega arith)
  ]
  | inr most ↦ inr (omega arith)
]

pub blown_call : {B : Type 0} (failed : B → ℕ) (on_bus : B → Cycle → Result (Unit {0}) BusFault → List ℕ → B → Type 0) (old new : FuseState B) (cycle : Cycle) (out : List ℕ)
    → true ≡ is_blown old → new ≡ burnt old → Handed failed on_bus old cycle (refused Device) out new
blown_call {B} failed on_bus old new cycle out blown is =
    let spent : FuseState B = record { bus = old.bus; passed = old.passed; failing = old.failing - 1; failures = counted old.failures } in
    let now : new ≡ spent = is ∙ ap (λ b. if b then spent else record { bus = old.bus; passed = old.passed - 1; failing = old.failing; failures = old.failures }) (sym blown) in
    subst (Handed failed on_bus old cycle (refused Device) out) (sym now) (record {
      called = record {
        fails = λ h. refl;
        blown = λ h. refl;
        passes = λ whole. absurd (both_ways (is_blown old) whole (sym blown));
        handed_on = λ whole. absurd (both_ways (is_blown old) whole (sym blown));
      };
      rises = omega arith;
      rose = λ device. own_rise (failed old.bus) old.failures;
    })

pub passed_call : {B : Type 0} (failed : B → ℕ) (on_bus : B → Cycle → Result (Unit {0}) BusFault → List ℕ → B → Type 0) (old mid : FuseState B) (bus : B) (cycle : Cycle) (r : Result (Unit {0}) BusFault) (out : List ℕ)
    → false ≡ is_blown old → mid ≡ burnt old → on_bus mid.bus cycle r out bus → failed mid.bus ≤ failed bus → IfErr r (IsCounted (failed mid.bus) (failed bus))
    → Handed failed on_bus old cycle r out (record { bus = bus; passed = mid.passed; failing = mid.failing; failures = mid.failures })
passed_call {B} failed on_bus old mid bus cycle r out whole is =
    let less : FuseState B = record { bus = old.bus; passed = old.passed - 1; failing = old.failing; failures = old.failures } in
    let now : mid ≡ less = is ∙ ap (λ b. if b then record { bus = old.bus; passed = old.passed; failing = old.failing - 1; failures = counted old.failures } else less) (sym whole) in
    subst (λ (m : FuseState B). on_bus m.bus cycle r out bus → failed m.bus ≤ failed bus → IfErr r (IsCounted (failed m.bus) (failed bus))
    → Handed failed on_bus old cycle r out (record { bus = bus; passed = m.passed; failing = m.failing; failures = m.failures })) (sym now)
    (λ call more rose. record {
      called = record {
        fails = λ blown. absurd (both_ways (is_blown old) (sym whole) blown);
        blown = λ blown. absurd (both_ways (is_blown old) (sym whole) blown);
        passes = λ h. call;
        handed_on = λ h. refl;
      };
      rises = omega arith;
      rose = bus_rise r (failed old.bus) (failed bus) old.failures rose;
    })

-- ---- a garble

-- a call of it that is one of the bus, and the faults
pub record Passed {B : Type 0} (failed : B → ℕ) (call : B → B → Type 0) (r : Result (Unit {0}) BusFault) (old new : GarbleState B) : Type 0 where
  pub called : call old.bus new.bus × (new ≡ with_outs old old.outs new.bus)
  pub rises : failed old.bus ≤ failed new.bus
  pub rose : IfErr r (IsCounted (failed old.bus) (failed new.bus))

pub passed_on : {B : Type 0} (failed : B → ℕ) (call : B → B → Type 0) (r : Result (Unit {0}) BusFault) (v old : GarbleState B) (bus : B) → v ≡ old → call v.bus bus → failed v.bus ≤ failed bus → IfErr r (IsCounted (failed v.bus) (failed bus))
    → Passed failed call r old (record { bus = bus; outs = v.outs; byte = v.byte; mask = v.mask })
passed_on {B} failed call r v old bus same said rises rose =
    subst (λ (s : GarbleState B). Passed failed call r s (with_outs v v.outs bus)) same (record { called = (said, refl); rises = rises; rose = rose })
