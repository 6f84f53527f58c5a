-- What a call of a die says of itself, clause by clause of a bus: of a die that fails, of one that does what is due, and of one that stops.
use Rattle.std.proofs.Common.{◌≡◌, ◌≤◌, ℕ, ◌-◌, ◌^◌, ◌==◌, ◌&&◌, ◌||◌, Bool, true, false, not, List, [], refl, sym, ◌∙◌, ap, subst, arith, inl, inr}
use Rattle.std.proofs.Common.{Ok, Err, if◌then◌else◌}
use Rattle.std.specs.Prelude.{Result, OnErr, OnOk, IfErr}
use Rattle.std.proofs.lemmas.Bool.{both_ways, cases_eq, cases_lt, eq-eqb, eqb-true, ne_eqb}
use Rattle.page_layout.specs.Counter.{counted, HasRisen}
use Rattle.page_layout.specs.Flash.{IsWhole}
use Rattle.page_layout.specs.Page.{IsImage}
use Rattle.onfi_cycles.specs.declared.nand.BusFault.{BusFault}
use Rattle.onfi_cycles.specs.declared.nand.BusFault.TheVariants.{NoReset, UnknownCommand, OutOfTurn, AddressRange, ColumnRange, Device}
use Rattle.onfi_cycles.specs.Cycles.{Cycle, CycleStep, Command, Due, given_up, Moves, Resets, Programs, Erases, Refuses, IsCounted, IsUncounted, IsUntouched, bytes_out}
use Rattle.onfi_cycles.specs.Recorded.{IsNoted}
use Rattle.onfi_cycles.specs.Spelling.{refused}
use Rattle.nand_die.specs.BusState.{IsProtocolFault}
use Rattle.nand_die.specs.Stopping.{IsStop, is_change, left_by_stop}
use Rattle.nand_die.specs.ChipValue.{ChipValue, Acts, answered, answer_to}
use Rattle.nand_die.specs.DieValue.{DieValue, IsCall, IsOutOf, after_cycle, after_quiet, chip_of, die_of, done_as, due_now, failed_as, is_calm, stops}
use Rattle.nand_die.proofs.StopLemmas.{after_stopped, both_true, done_noted, first_true, not_true, quiet_noted, stop_geometry, stop_phase}
use Rattle.nand_die.proofs.LeavesLemmas.{call_stops}

-- the clauses of a call but for the bytes that it puts out
pub record Said (d : DieValue) (cycle : Cycle) (r : Result (Unit {0}) BusFault) (out : List ℕ) (e : DieValue) : Type 0 where
  pub called : IsCall d cycle r out e
  pub cycle_is : CycleStep d.state cycle r e.state
  pub recorded : OnOk r (true ≡ true → IsNoted d.state cycle d.recorded e.state e.recorded)
  pub geometry : e.state.flash.geometry ≡ d.state.flash.geometry
  pub whole : OnOk r (true ≡ true → IsWhole e.state.flash)
  pub calm : is_calm e ≡ is_calm d
  pub failed : d.failures ≤ e.failures
  pub rose : IfErr r (IsCounted d.failures e.failures)
  pub settled : OnOk r (true ≡ true → e.failures ≡ d.failures)
  pub uncounted : IfErr r (λ fault. true ≡ true → IsUncounted d.failures e.failures fault)

-- ---- counts and answers

pub risen : (n : ℕ) → HasRisen n (counted n)
risen n = elim (cases_lt n (2 ^ 64 - 1)) [
  | inl below ↦ inl (omega arith)
  | inr top ↦ inr (omega arith)
]

-- of a call that was taken, and of one that failed
on_ok : (r : Result (Unit {0}) BusFault) (P : Type 0) → P → OnOk r P
on_ok (Ok x) P p = p
on_ok (Err fault) P p = tt

unless_device : (r : Result (Unit {0}) BusFault) (m n : ℕ) → IfErr r IsProtocolFault → IfErr r (IsCounted m n)
unless_device (Ok x) m n own = tt
unless_device (Err fault) m n own = λ device. absurd (own device)

uncounted_so : (r : Result (Unit {0}) BusFault) (m n : ℕ) → n ≡ m → IfErr r (λ fault. true ≡ true → IsUncounted m n fault)
uncounted_so (Ok x) m n same = tt
uncounted_so (Err fault) m n same = λ h other. same

-- a chip answers what was due
acts_answer : (due : Due) (c e : ChipValue) (r : Result (Unit {0}) BusFault) → Acts due c e r → r ≡ answer_to due
acts_answer (Moves phase) c e (Ok x) a = refl
acts_answer Resets c e (Ok x) a = refl
acts_answer (Programs row page) c e (Ok x) a = refl
acts_answer (Erases block) c e (Ok x) a = refl
acts_answer (Refuses fault) c e (Ok x) a = absurd a.follows
acts_answer due c e (Err NoReset) a = sym (ap answer_to a.follows.0)
acts_answer due c e (Err UnknownCommand) a = sym (ap answer_to a.follows.0)
acts_answer due c e (Err OutOfTurn) a = sym (ap answer_to a.follows.0)
acts_answer due c e (Err AddressRange) a = sym (ap answer_to a.follows.0)
acts_answer due c e (Err ColumnRange) a = sym (ap answer_to a.follows.0)
acts_answer due c e (Err Device) a = absurd (a.own refl)

-- ---- a die that has stopped

stopped_not_calm : (d : DieValue) → d.stopped ≡ true → is_calm d ≡ true → ⊥
stopped_not_calm d now calm = both_ways d.stopped (not_true d.stopped (first_true (not d.stopped) ((d.left == 0) && (d.failures == 0)) calm)) now

fails_now : (d : DieValue) (cycle : Cycle) (out : List ℕ) → d.stopped ≡ true → IsOutOf d cycle (refused Device) out → d.failures ≤ counted d.failures → Said d cycle (refused Device) out (failed_as d (chip_of d) d.left)
fails_now d cycle out now gives rises = record {
  called = record {
    does = sym (after_stopped d cycle now);
    answers = sym (ap (λ b. if b || stops d cycle then refused Device else answer_to (due_now d cycle)) now);
    puts_out = gives;
    own = λ calm. absurd (stopped_not_calm d now calm);
    leaves = λ runs stop. absurd (both_ways d.stopped runs now);
  };
  cycle_is = refl;
  recorded = tt;
  geometry = refl;
  whole = tt;
  calm = sym (ap (λ b. not b && ((d.left == 0) && (d.failures == 0))) now);
  failed = rises;
  rose = λ device. risen d.failures;
  settled = tt;
  uncounted = λ h other. absurd (other refl);
}

pub fails : (d e : DieValue) (cycle : Cycle) (r : Result (Unit {0}) BusFault) (out : List ℕ) → d.stopped ≡ true → IsOutOf d cycle (refused Device) out
    → e ≡ failed_as d (chip_of d) d.left → r ≡ refused Device → d.failures ≤ e.failures → Said d cycle r out e
fails d e cycle r out now gives is device rises =
    subst (λ x. Said d cycle x out e) (sym device) (subst (λ (y : DieValue). Said d cycle (refused Device) out y) (sym is)
    (fails_now d cycle out now gives (subst (λ (y : DieValue). d.failures ≤ y.failures) is rises)))

-- ---- a cycle that is no command

pub does_quiet : (d : DieValue) (c : ChipValue) (cycle : Cycle) (r : Result (Unit {0}) BusFault) (out : List ℕ) → d.stopped ≡ false → stops d cycle ≡ false → after_cycle cycle d ≡ after_quiet cycle d
    → IsOutOf d cycle r out → Acts (due_now d cycle) (chip_of d) c r → is_change (due_now d cycle) ≡ false → Said d cycle r out (die_of c d.stop d.left d.stopped d.failures d.recorded d.room)
does_quiet d c cycle r out runs goes quiet_cycle gives acts quiet =
    let due : Due = due_now d cycle in
    let now : ChipValue → Bool → DieValue = λ x b. die_of x d.stop d.left b d.failures d.recorded d.room in
    record {
      called = record {
        does = ap (λ x. now x d.stopped) acts.does ∙ (ap (now (answered due (chip_of d))) runs
            ∙ sym (quiet_cycle ∙ ap (λ b. if b then failed_as d (chip_of d) d.left else now (answered due (chip_of d)) false) runs));
        answers = acts_answer due (chip_of d) c r acts
            ∙ sym (ap (λ b. if b || stops d cycle then refused Device else answer_to due) runs ∙ ap (λ b. if b then refused Device else answer_to due) goes);
        puts_out = gives;
        own = λ calm. acts.own;
        leaves = λ runs stop. absurd (both_ways (stops d cycle) goes stop);
      };
      cycle_is = acts.follows;
      recorded = quiet_noted due d.recorded d.recorded c.state r quiet refl;
      geometry = acts.same;
      whole = on_ok r (true ≡ true → IsWhole c.state.flash) (λ h. acts.whole);
      calm = refl;
      failed = omega arith;
      rose = unless_device r d.failures d.failures acts.own;
      settled = on_ok r (true ≡ true → d.failures ≡ d.failures) (λ h. refl);
      uncounted = uncounted_so r d.failures d.failures refl;
    }

-- ---- a command

nearer : (left : ℕ) (b : Bool) → ((left == 1) && b) ≡ false → ((if b then left - 1 else left) == 0) ≡ (left == 0)
nearer left false goes = refl
nearer left true goes = elim (cases_eq left 0) [
  | inl none ↦ eq-eqb (left - 1) 0 (omega (arith, none)) ∙ sym (eq-eqb left 0 none)
  | inr some ↦ ne_eqb (left - 1) 0 (λ last. not_one (omega (arith, last, some))) ∙ sym (ne_eqb left 0 some)
]
  where
    not_one : left ≡ 1 → ⊥
    not_one one = both_ways ((left == 1) && true) goes (ap (λ b. b && true) (eq-eqb left 1 one))

does_command : (d e : DieValue) (code left : ℕ) (r : Result (Unit {0}) BusFault) → d.stopped ≡ false → stops d (Command code) ≡ false
    → left ≡ (if is_change (due_now d (Command code)) then d.left - 1 else d.left) → e ≡ done_as d (due_now d (Command code)) left
    → Acts (due_now d (Command code)) (chip_of d) (chip_of e) r → Said d (Command code) r [] e
does_command d e code left r runs goes is_left is acts =
    let due : Due = due_now d (Command code) in
    let nearer_by : ℕ = if is_change due then d.left - 1 else d.left in
    let failures : e.failures ≡ d.failures = ap (λ (v : DieValue). v.failures) is in
    record {
      called = record {
        does = is ∙ (ap (done_as d due) is_left
            ∙ sym (ap (λ b. if b then failed_as d (chip_of d) d.left else if stops d (Command code) then failed_as d (left_by_stop d.stop due (chip_of d)) 0 else done_as d due nearer_by) runs
            ∙ ap (λ b. if b then failed_as d (left_by_stop d.stop due (chip_of d)) 0 else done_as d due nearer_by) goes));
        answers = acts_answer due (chip_of d) (chip_of e) r acts
            ∙ sym (ap (λ b. if b || stops d (Command code) then refused Device else answer_to due) runs ∙ ap (λ b. if b then refused Device else answer_to due) goes);
        puts_out = refl;
        own = λ calm. acts.own;
        leaves = λ runs stop. absurd (both_ways (stops d (Command code)) goes stop);
      };
      cycle_is = acts.follows;
      recorded = done_noted d e due left r is;
      geometry = acts.same;
      whole = on_ok r (true ≡ true → IsWhole e.state.flash) (λ h. acts.whole);
      calm = ap is_calm is ∙ (ap (λ k. (k == 0) && (d.failures == 0)) is_left ∙ (ap (λ b. b && (d.failures == 0)) (nearer d.left (is_change due) goes)
          ∙ sym (ap (λ b. not b && ((d.left == 0) && (d.failures == 0))) runs)));
      failed = omega (arith, failures);
      rose = unless_device r d.failures e.failures acts.own;
      settled = on_ok r (true ≡ true → e.failures ≡ d.failures) (λ h. failures);
      uncounted = uncounted_so r d.failures e.failures failures;
    }

-- one that was counted towards the stop, and is done
pub does_next : (d x e : DieValue) (code left : ℕ) (r : Result (Unit {0}) BusFault) → d.stopped ≡ false → stops d (Command code) ≡ false
    → left ≡ (if is_change (due_now d (Command code)) then d.left - 1 else d.left) → x ≡ die_of (chip_of d) d.stop left d.stopped d.failures d.recorded d.room
    → e ≡ done_as x (due_now x (Command code)) x.left → Acts (due_now x (Command code)) (chip_of x) (chip_of e) r → Said d (Command code) r [] e
does_next d x e code left r runs goes is_left is does acts =
    let by : DieValue → Type 0 = λ y. e ≡ done_as y (due_now y (Command code)) y.left in
    does_command d e code left r runs goes is_left (subst by is does) (subst (λ (y : DieValue). Acts (due_now y (Command code)) (chip_of y) (chip_of e) r) is acts)

-- one in which the die stops: counted, struck and failed
pub stops_now : (d x y e : DieValue) (code : ℕ) (r : Result (Unit {0}) BusFault) → IsStop d.state.flash.geometry d.stop → d.stopped ≡ false → stops d (Command code) ≡ true
    → x ≡ die_of (chip_of d) d.stop (if is_change (due_now d (Command code)) then d.left - 1 else d.left) d.stopped d.failures d.recorded d.room
    → y ≡ die_of (left_by_stop x.stop (due_now x (Command code)) (chip_of x)) x.stop x.left x.stopped x.failures x.recorded x.room
    → e ≡ failed_as y (chip_of y) y.left → IsImage e.state.flash.geometry e.state.flash.image → r ≡ refused Device → y.failures ≤ e.failures → Said d (Command code) r [] e
stops_now d x y e code r fits runs now counted_once struck failed_so whole device rises =
    let due : Due = due_now d (Command code) in
    let change : is_change due ≡ true = both_true (d.left == 1) (is_change due) now in
    let left : ℕ = if is_change due then d.left - 1 else d.left in
    let same : y.failures ≡ d.failures = ap (λ (v : DieValue). v.failures) struck ∙ ap (λ (v : DieValue). v.failures) counted_once in
    let chip : chip_of y ≡ left_by_stop d.stop due (chip_of d) = ap chip_of struck ∙ ap (λ (v : DieValue). left_by_stop v.stop (due_now v (Command code)) (chip_of v)) counted_once in
    let more : e.failures ≡ counted d.failures = ap (λ (v : DieValue). v.failures) failed_so ∙ ap counted same in
    let one : (d.left == 1) ≡ true = first_true (d.left == 1) (is_change due) now in
    subst (λ a. Said d (Command code) a [] e) (sym device) (record {
      called = call_stops d x y e code (refused Device) fits runs now counted_once struck failed_so whole refl;
      cycle_is = ap (λ (v : DieValue). v.state.phase) failed_so ∙ (ap (λ (c : ChipValue). given_up c.state.phase) chip ∙ stop_phase d.stop (chip_of d) code change);
      recorded = tt;
      geometry = ap (λ (v : DieValue). v.state.flash.geometry) failed_so ∙ (ap (λ (c : ChipValue). c.state.flash.geometry) chip ∙ stop_geometry d.stop due (chip_of d));
      whole = tt;
      calm = ap is_calm failed_so ∙ sym (not_calm d.left d.stopped (d.failures == 0) one);
      failed = omega (arith, rises, same);
      rose = λ h. subst (HasRisen d.failures) (sym more) (risen d.failures);
      settled = tt;
      uncounted = λ h other. absurd (other refl);
    })
  where
    never : (b : Bool) → (not b && false) ≡ false
    never true = refl
    never false = refl

    not_calm : (n : ℕ) (b z : Bool) → (n == 1) ≡ true → (not b && ((n == 0) && z)) ≡ false
    not_calm n b z e = ap (λ k. not b && ((k == 0) && z)) (eqb-true n 1 e) ∙ never b

-- ---- bytes that are put out

pub record Gives (d : DieValue) (count : ℕ) (r : Result (Unit {0}) BusFault) (before out : List ℕ) : Type 0 where
  pub kept : IfErr r (λ fault. true ≡ true → IsUntouched before out fault)
  pub taken : OnOk r (true ≡ true → out ≡ bytes_out d.state d.state.phase count)

pub gives_none : (d : DieValue) (count : ℕ) (r : Result (Unit {0}) BusFault) (before out : List ℕ) → r ≡ refused Device → Gives d count r before out
gives_none d count r before out device = subst (λ x. Gives d count x before out) (sym device) (record { kept = λ h other. absurd (other refl); taken = tt })

pub gives_all : (d : DieValue) (count : ℕ) (r : Result (Unit {0}) BusFault) (before out : List ℕ) → OnErr r (out ≡ before) → OnOk r (out ≡ bytes_out d.state d.state.phase count) → Gives d count r before out
gives_all d count (Ok x) before out kept taken = record { kept = tt; taken = λ h. taken }
gives_all d count (Err fault) before out kept taken = record { kept = λ h other. kept; taken = tt }
