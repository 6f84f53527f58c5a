-- The pages that a collection reads.
use Rattle.std.proofs.Common.{◌≡◌, ◌⊎◌, inl, inr, ℕ, ◌+◌, ◌-◌, ◌*◌, ◌<◌, ◌≤◌, min, Bool, true, false, length, Some, Ok, refl, ap, ◌∙◌, arith}
use Rattle.page_layout.specs.declared.geometry.Geometry.{Geometry}
use Rattle.page_layout.specs.Geometry.{translation_pages}
use Rattle.collection.specs.State.{Ram}
use Rattle.budget.specs.Laws.{Accounts}
use Rattle.budget.proofs.CopyLemmas.{write_back_account}
use Rattle.std.proofs.Math.Nat.{mul-add, mul_comm, mul-le-mul_right}
use Rattle.std.proofs.lemmas.Bool.{cases_Bool, cases_lt}
use Rattle.collection.specs.Safe.{IsRam}
use Rattle.collection.specs.Collect.{due_count, excess, waiting, StepCosts}
use Rattle.collection.specs.Whole.{next_of, HasReadFewPages}
use Rattle.collection.specs.declared.engine.collect_steps.Progress.{Progress}
use Rattle.collection.specs.declared.engine.collect_steps.Progress.TheVariants as step_is
use Rattle.collection.proofs.Ledgers.{due_most, ok_step, brings_share, waiting_same}
use Rattle.collection.proofs.Overs.{some_due}
use Rattle.collection.proofs.Batches.{one_more}

pub none_read : (flushing : Bool) (first : ℕ) (r : Ram) (reads : ℕ) → (flushing ≡ true → due_count flushing r ≤ first) → length r.mapping.moved ≤ waiting r + first → first ≤ r.geometry.pages → HasReadFewPages flushing first first r r reads reads
none_read flushing first r reads due passed within =
    let most : due_count flushing r ≤ translation_pages r.geometry = due_most flushing r r refl in
    record {
      written = 0;
      flushed = λ on. (let d = due on in omega arith);
      share = refl;
      moved = λ off. omega (arith, passed);
      last = λ off. inl refl;
      once = omega (arith, most);
      order = inl refl;
      on = omega arith;
      within = within;
      few = omega arith;
    }

-- one more written back, where more are moved than may wait
last_more : (old now : Ram) (first written : ℕ) → now.geometry ≡ old.geometry → now.mapping.share ≡ old.mapping.share → Accounts old.mapping.share (waiting old) first written (length now.mapping.moved)
    → waiting now < length now.mapping.moved → (old.mapping.share + 1) * (written + 1) ≤ first + old.mapping.share
last_more old now first written same share moved many =
    let may = waiting_same old now same share in
    omega (arith, moved, many, may, mul-add (old.mapping.share + 1) written 1)

-- so they are no more than the pages
few_last : (share first written : ℕ) → (share + 1) * written ≤ first + share → written ≤ first
few_last share first written le = elim (cases_lt first written) [
  | inl more ↦
      let as_many : (first + 1) * (share + 1) ≤ written * (share + 1) = mul-le-mul_right (share + 1) (one_more more) in
      absurd (omega (arith, as_many, mul_comm written (share + 1), mul-add (first + 1) share 1, mul_comm (first + 1) share, mul-add share first 1, le))
  | inr over ↦ over
]

pub read_more : (flushing : Bool) (block start first next : ℕ) (old now new : Ram) (before middle after : ℕ) (step : Progress)
    → now.geometry ≡ old.geometry → new.geometry ≡ old.geometry → HasReadFewPages flushing start first old now before middle
    → next_of old.geometry.pages step ≡ Some next → StepCosts flushing block first now new (Ok step)
    → after ≤ middle + (2 * (now.geometry.pages - first) + min (excess flushing now) 1)
    → ((page : ℕ) → ok_step step ≡ ok_step (step_is.Copied page) → after ≤ middle + 2 * (page + 1 - first))
    → HasReadFewPages flushing start next old new before after
read_more flushing block start first next old now new before middle after (step_is.Copied page) same still h is cost most copied =
    let e : page + 1 ≡ next = cc in
    let pages : now.geometry.pages ≡ old.geometry.pages = ap (λ (g : Geometry). g.pages) same in
    let zero : h.written ≡ 0 = elim h.order [ inl z ↦ z | inr past ↦ absurd (omega (arith, pages, cost.0, cost.1)) ] in
    let few = copied page refl in
    record {
      written = h.written;
      flushed = λ on. (let f = h.flushed on in let due = cost.2.due in omega (arith, e, cost.0));
      share = brings_share cost.2.key cost.2.row now.mapping new.mapping cost.2.sets ∙ h.share;
      moved = λ off. (let m = h.moved off in let more = cost.2.moved in omega (arith, e, cost.0));
      last = λ off. inl zero;
      once = (let due = due_most flushing old new still in omega (arith, zero, due));
      order = inl zero;
      on = omega (arith, e, h.on, cost.0);
      within = omega (arith, e, pages, cost.1);
      few = omega (arith, e, h.few, h.on, cost.0, few);
    }
read_more flushing block start first next old now new before middle after step_is.WroteBack same still h is cost most copied =
    let e : old.geometry.pages ≡ next = cc in
    let pages : now.geometry.pages ≡ old.geometry.pages = ap (λ (g : Geometry). g.pages) same in
    record {
      written = h.written + 1;
      flushed = λ on. (let f = h.flushed on in let due = cost.due in omega (arith, e, h.within));
      share = ap (λ m. m.share) cost.mapping ∙ h.share;
      moved = λ off. (let m = write_back_account old.mapping.share (waiting old) first h.written (length now.mapping.moved) (length new.mapping.moved) (h.moved off) (let c = cost.many off in let share = h.share in omega arith) in let w = h.within in omega (arith, e, m));
      last = λ off. inr (let l = last_more old now first h.written same h.share (h.moved off) (cost.lowest.many off) in let w = h.within in omega (arith, e, l));
      once = (let due = cost.due in omega (arith, h.once));
      order = inr (omega (arith, e));
      on = omega (arith, e, h.on, h.within);
      within = omega (arith, e);
      few = omega (arith, e, pages, h.few, h.on, h.within, most);
    }
read_more flushing block start first next old now new before middle after step_is.Erased same still h is cost most copied = (let no : ⊥ = cc in absurd no)

-- with the last step
pub read_all : (flushing : Bool) (start first : ℕ) (old now : Ram) (before middle after : ℕ) → IsRam now → now.geometry ≡ old.geometry
    → HasReadFewPages flushing start first old now before middle → after ≤ middle + (2 * (now.geometry.pages - first) + min (excess flushing now) 1)
    → after ≤ before + (2 * (old.geometry.pages - start) + min old.geometry.pages (translation_pages old.geometry))
read_all flushing start first old now before middle after s same h most =
    let pages : now.geometry.pages ≡ old.geometry.pages = ap (λ (g : Geometry). g.pages) same in
    let on = h.on in
    let within = h.within in
    let few = h.few in
    let once = h.once in
    elim (cases_Bool flushing) [
      | inl flushes ↦ (let f = h.flushed flushes in let owed : excess flushing now ≡ due_count flushing now = rw flushes refl in omega arith)
      | inr off ↦
          let owed : excess flushing now ≡ length now.mapping.moved - waiting now = rw off refl in
          elim (cases_lt (waiting now) (length now.mapping.moved)) [
            | inl many ↦
                let next = few_last old.mapping.share first (h.written + 1) (last_more old now first h.written same h.share (h.moved off) many) in
                let due = some_due now s many flushing in
                omega arith
            | inr settled ↦ (let last : h.written ≤ first = elim (h.last off) [ inl none ↦ omega arith | inr l ↦ few_last old.mapping.share first h.written l ] in omega arith)
          ]
    ]
