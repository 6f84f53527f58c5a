-- What a die leaves that stops in a program or an erase.
use Rattle.std.proofs.Common.{◌≡◌, inl, inr, ℕ, ◌-◌, ◌*◌, ◌/◌, ◌<◌, ◌==◌, ◌||◌, Bool, true, false, List, [], ◌++◌, length, refl, sym, ◌∙◌, ap, subst}
use Rattle.std.proofs.Common.{arith, Option, Some, None, if◌then◌else◌}
use Rattle.std.specs.Prelude.{Result, slice_set}
use Rattle.std.proofs.lemmas.Bool.{eqb-true}
use Rattle.std.proofs.lemmas.List.{length-set}
use Rattle.std.proofs.Math.Nat.{mul-div_cancel}
use Rattle.page_layout.specs.declared.geometry.Geometry.{Geometry}
use Rattle.page_layout.specs.Page.{Page, Image, IsImage}
use Rattle.page_layout.specs.Sound.{record_of}
use Rattle.page_layout.specs.Change.{FailsAt, LosesIn}
use Rattle.page_layout.specs.Counter.{counted}
use Rattle.page_layout.specs.Flash.{Flash, Operation, after, may_program, may_erase}
use Rattle.page_layout.specs.Recording.{Recording, IsRecordOf, image_after, image_after_all}
use Rattle.page_layout.proofs.ArrayLemmas.{slice_get-set_other, slice_get-set_same}
use Rattle.page_layout.proofs.FlashLemmas.{geometry-Leads}
use Rattle.promises.specs.Stop.{LeftBy, MayLeave, IsTornIn}
use Rattle.promises.proofs.StopLemmas.{between, stops_join, image_law}
use Rattle.promises.proofs.TornLemmas.{fails_torn}
use Rattle.onfi_cycles.specs.declared.nand.BusFault.{BusFault}
use Rattle.onfi_cycles.specs.declared.nand.BusFault.TheVariants.{Device}
use Rattle.onfi_cycles.specs.Spelling.{refused}
use Rattle.onfi_cycles.specs.Cycles.{Cycle, Command, Due, Moves, Resets, Programs, Erases, Refuses, page_of}
use Rattle.nand_die.specs.declared.fault.Stop.{Stop}
use Rattle.nand_die.specs.declared.fault.Stop.TheVariants.{Before, After, Torn}
use Rattle.nand_die.specs.ChipValue.{ChipValue, answer_to, answered}
use Rattle.nand_die.specs.Stopping.{IsStop, is_change, left_by_stop, operation_due, quit}
use Rattle.nand_die.specs.Laws.{HasOnly, StopLeavesLaw, TornPageLaw, WholeStopLaw}
use Rattle.nand_die.specs.DieValue.{DieValue, IsCall, LeavesStopped, chip_of, die_of, done_as, due_now, failed_as, stops}
use Rattle.nand_die.proofs.StopLemmas.{both_true, calm_stops, first_true, stop_geometry}

no_bool : true ≡ false → ⊥
no_bool e = cc

-- ---- one operation

done_due : (due : Due) (d : ChipValue) → (answered due d).state.flash.image ≡ image_after_all d.state.flash.geometry.pages d.state.flash.image (operation_due due d)
unfolding after image_after
done_due (Moves phase) d = refl
done_due Resets d = refl
done_due (Programs row page) d = refl
done_due (Erases block) d = refl
done_due (Refuses fault) d = refl

torn_program : (b : Bool) (image : Image) (row : ℕ) (p : Page) → record_of p ≡ None → FailsAt row image (if b then slice_set image row p else image)
torn_program true image row p unsound = inr (p, refl, unsound)
torn_program false image row p unsound = inl refl

torn_erase : (b : Bool) (pages block : ℕ) (image : Image) (p : Page) → 0 < pages → record_of p ≡ None → LosesIn pages block image (if b then slice_set image (block * pages) p else image)
torn_erase true pages block image p some unsound =
    let t : IsTornIn (λ r. r ≡ block * pages) image (slice_set image (block * pages) p) = fails_torn image (slice_set image (block * pages) p) (block * pages) (inr (p, refl, unsound)) in
    record {
      length_same = t.size;
      others = λ row ne. elim (t.each row) [
        | inl same ↦ same
        | inr torn ↦ absurd (ne (ap (λ r. r / pages) torn.0 ∙ mul-div_cancel block some))
      ];
      inside = λ row e. elim (t.each row) [
        | inl same ↦ inl same
        | inr torn ↦ inr torn.1
      ];
    }
torn_erase false pages block image p some unsound = record { length_same = refl; others = λ row ne. refl; inside = λ row e. inl refl }

-- what a stop leaves of one operation
left_tears : (stop : Stop) (due : Due) (d : ChipValue) → IsStop d.state.flash.geometry stop
    → LeftBy d.state.flash.geometry.pages d.state.flash.image (operation_due due d) (left_by_stop stop due d).state.flash.image
left_tears Before due d fits = between d.state.flash.geometry.pages d.state.flash.image [] (operation_due due d)
left_tears After due d fits = all_done due
  where
    all_done : (due : Due) → LeftBy d.state.flash.geometry.pages d.state.flash.image (operation_due due d) (answered due d).state.flash.image
    all_done (Moves phase) = refl
    all_done Resets = refl
    all_done (Programs row page) = inr (done_due (Programs row page) d)
    all_done (Erases block) = inr (done_due (Erases block) d)
    all_done (Refuses fault) = refl
left_tears (Torn bytes) (Moves phase) d fits = refl
left_tears (Torn bytes) Resets d fits = refl
left_tears (Torn bytes) (Programs row page) d fits = inl (torn_program (may_program d.state.flash row) d.state.flash.image row (page_of d.state.flash.geometry bytes.items) fits.1)
left_tears (Torn bytes) (Erases block) d fits =
    inl (torn_erase (may_erase d.state.flash block) d.state.flash.geometry.pages block d.state.flash.image (page_of d.state.flash.geometry bytes.items) (omega (arith, d.state.flash.geometry.limits.page_count.least)) fits.1)
left_tears (Torn bytes) (Refuses fault) d fits = refl

-- ---- the operations so far, and it

pub leaves_stopped : (d : DieValue) (cycle : Cycle) (left : Image) → IsStop d.state.flash.geometry d.stop → IsImage d.state.flash.geometry left
    → left ≡ (left_by_stop d.stop (due_now d cycle) (chip_of d)).state.flash.image → LeavesStopped d cycle left
leaves_stopped d cycle left fits whole is = λ first log led.
    let pages : ℕ = d.state.flash.geometry.pages in
    let due : List Operation = operation_due (due_now d cycle) (chip_of d) in
    let torn : LeftBy pages d.state.flash.image due left = subst (LeftBy pages d.state.flash.image due) (sym is) (left_tears d.stop (due_now d cycle) (chip_of d) fits) in
    record { whole = whole; by = (stops_join pages first left log due).1 (inr (subst (λ (i : Image). LeftBy pages i due left) led torn)) }

-- ---- a call

-- a command in which a die stops: counted, struck, failed
pub call_stops : (d x y e : DieValue) (code : ℕ) (r : Result (Unit {0}) BusFault) → IsStop d.state.flash.geometry d.stop → d.stopped ≡ false → stops d (Command code) ≡ true
    → x ≡ die_of (chip_of d) d.stop (if is_change (due_now d (Command code)) then d.left - 1 else d.left) d.stopped d.failures d.recorded d.room
    → y ≡ die_of (left_by_stop x.stop (due_now x (Command code)) (chip_of x)) x.stop x.left x.stopped x.failures x.recorded x.room
    → e ≡ failed_as y (chip_of y) y.left → IsImage e.state.flash.geometry e.state.flash.image → r ≡ refused Device → IsCall d (Command code) r [] e
call_stops d x y e code r fits runs now counted_once struck failed whole device =
    let due : Due = due_now d (Command code) in
    let left : ChipValue = left_by_stop d.stop due (chip_of d) in
    let done : DieValue = failed_as d left 0 in
    let nearer : ℕ = if is_change due then d.left - 1 else d.left in
    let last : nearer ≡ 0 = ap (λ b. if b then d.left - 1 else d.left) (both_true (d.left == 1) (is_change due) now) ∙ ap (λ n. n - 1) (eqb-true d.left 1 (first_true (d.left == 1) (is_change due) now)) in
    let is : e ≡ done = failed ∙ (ap (λ (v : DieValue). failed_as v (chip_of v) v.left) struck
    ∙ (ap (λ (v : DieValue). die_of (quit (left_by_stop v.stop (due_now v (Command code)) (chip_of v))) v.stop v.left true (counted v.failures) None 0) counted_once
    ∙ ap (λ n. failed_as d left n) last)) in
    let same : e.state.flash.geometry ≡ d.state.flash.geometry = ap (λ (v : DieValue). v.state.flash.geometry) is ∙ stop_geometry d.stop due (chip_of d) in
    record {
      does = is ∙ sym (ap (λ b. if b then failed_as d (chip_of d) d.left else if stops d (Command code) then done else done_as d due nearer) runs ∙ ap (λ b. if b then done else done_as d due nearer) now);
      answers = device ∙ sym (ap (λ b. if b || stops d (Command code) then refused Device else answer_to due) runs ∙ ap (λ b. if b then refused Device else answer_to due) now);
      puts_out = refl;
      own = λ calm. absurd (no_bool (sym now ∙ calm_stops d (Command code) calm));
      leaves = λ runs now. leaves_stopped d (Command code) e.state.flash.image fits (subst (λ (g : Geometry). IsImage g e.state.flash.image) same whole) (ap (λ (v : DieValue). v.state.flash.image) is);
    }

-- ---- laws

pub stop_leaves_law : StopLeavesLaw
stop_leaves_law old new cycle answer out call runs now = (
  λ first log leads.
      let due : List Operation = operation_due (due_now old cycle) (chip_of old) in
      let same : old.state.flash.geometry ≡ first.geometry = geometry-Leads first old.state.flash log leads in
      let led : old.state.flash.image ≡ image_after_all old.state.flash.geometry.pages first.image log
      = image_law first old.state.flash log leads ∙ ap (λ (g : Geometry). image_after_all g.pages first.image log) (sym same) in
      subst (λ (g : Geometry). MayLeave g first.image (log ++ due) new.state.flash.image) same (call.leaves runs now first.image log led),
  λ r told is. call.leaves runs now r.image r.log (told_so old.state.flash old.recorded r told is),
)
  where
    told_so : (s : Flash) (told : Option Recording) (r : Recording) → told ≡ Some r → IsRecordOf s told → s.image ≡ image_after_all s.geometry.pages r.image r.log
    told_so s told r e is = subst (IsRecordOf s) e is

pub whole_stop_law : WholeStopLaw
whole_stop_law d due = (refl, done_due due d)

only_set : (b : Bool) (image : Image) (row : ℕ) (p : Page) → b ≡ true → row < length image → HasOnly row p image (if b then slice_set image row p else image)
only_set true image row p e within = record {
  size = length-set image row p;
  here = slice_get-set_same image row p within;
  others = λ other ne. slice_get-set_other image row other p ne;
}
only_set false image row p e within = cc

none_set : (b : Bool) (image : Image) (row : ℕ) (p : Page) → b ≡ false → (if b then slice_set image row p else image) ≡ image
none_set b image row p e = ap (λ x. if x then slice_set image row p else image) e

pub torn_page_law : TornPageLaw
torn_page_law Before d torn is = absurd is
torn_page_law After d torn is = absurd is
torn_page_law (Torn bytes) d torn is = (
  λ row page within may. subst (λ (p : Page). HasOnly row p d.state.flash.image (left_by_stop (Torn bytes) (Programs row page) d).state.flash.image) (sym is)
      (only_set (may_program d.state.flash row) d.state.flash.image row (page_of d.state.flash.geometry bytes.items) may within),
  λ block within may. subst (λ (p : Page). HasOnly (block * d.state.flash.geometry.pages) p d.state.flash.image (left_by_stop (Torn bytes) (Erases block) d).state.flash.image) (sym is)
      (only_set (may_erase d.state.flash block) d.state.flash.image (block * d.state.flash.geometry.pages) (page_of d.state.flash.geometry bytes.items) may within),
  λ row page may. none_set (may_program d.state.flash row) d.state.flash.image row (page_of d.state.flash.geometry bytes.items) may,
  λ block may. none_set (may_erase d.state.flash block) d.state.flash.image (block * d.state.flash.geometry.pages) (page_of d.state.flash.geometry bytes.items) may,
)
