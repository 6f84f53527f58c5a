-- Turns one after another: less is left of a collection each time.
use Rattle.std.proofs.Common.{◌≡◌, ◌≢◌, ◌⊎◌, ℕ, zero, suc, ◌+◌, ◌-◌, ◌<◌, ◌≤◌, ◌∙◌, min, inl, inr, true, false, None, Option, Some, sym, ap, subst, refl, arith}
use Rattle.page_layout.specs.View.{View}
use Rattle.page_layout.specs.Counter.{HasRisen}
use Rattle.page_layout.specs.Page.{Image}
use Rattle.page_layout.specs.Flash.{Flash}
use Rattle.collection.specs.declared.engine.Engine.{Engine}
use Rattle.collection.specs.declared.engine.Pinned.{Pinned}
use Rattle.collection.specs.declared.fault.EngineFault.{EngineFault}
use Rattle.collection.specs.declared.fault.EngineFault.TheVariants.{ReadOnly, SequenceSpent, Damaged, Bus}
use Rattle.collection.specs.State.{Ram}
use Rattle.collection.specs.Safe.{IsRam, ram, image_in}
use Rattle.collection.specs.Truth.{IsTrue}
use Rattle.collection.specs.Left.{PinIsFew, left, left_to_program, left_by_pin}
use Rattle.collection.proofs.Lefts.{left_law}
use Rattle.ftl_device.specs.Calls.{PinIsTrue, HasFallen, LeftBelowLaw, TurnsLaw, stop_of}
use Rattle.ftl_device.proofs.PinLemmas.{few_more}

-- ---- less is left than a block has pages

below_by : (o : Option Pinned) (r : Ram) (x : Image) → IsRam r → IsTrue None r x → r.pin.block ≡ o → PinIsFew 1 r → left r x < r.geometry.pages
below_by None r x s w at few = (let l : left r x ≡ r.geometry.pages - 1 = ap (λ o. left_by_pin o r x) at in omega (arith, l, r.geometry.limits.page_count.least))
below_by (Some p) r x s w at few = (let l : left r x ≡ min (left_to_program false r x p.block) (r.geometry.pages - 1) = ap (λ o. left_by_pin o r x) at in omega (arith, l, r.geometry.limits.page_count.least))

left_below : (r : Ram) (x : Image) → IsRam r → IsTrue None r x → PinIsTrue r.fault r x → stop_of r.fault ≡ None → r.fault ≢ Some ReadOnly → left r x < r.geometry.pages
left_below r x s w its going ne = at r.fault refl
  where
    at : (f : Option EngineFault) → r.fault ≡ f → left r x < r.geometry.pages
    at None is = (let k : PinIsTrue None r x = subst (λ f. PinIsTrue f r x) is its in below_by r.pin.block r x s w refl (few_more r k.1))
    at (Some ReadOnly) is = absurd (ne is)
    at (Some SequenceSpent) is = (let k : PinIsTrue (Some SequenceSpent) r x = subst (λ f. PinIsTrue f r x) is its in below_by r.pin.block r x s w refl k)
    at (Some Damaged) is = (let no : stop_of (Some Damaged) ≡ None = sym (ap stop_of is) ∙ going in let never : ⊥ = cc in absurd never)
    at (Some Bus) is = (let no : stop_of (Some Bus) ≡ None = sym (ap stop_of is) ∙ going in let never : ⊥ = cc in absurd never)

pub left_below_law : {N : Type 0} (flash : N → Flash) → LeftBelowLaw flash
left_below_law flash d device well writable = left_below (ram d.engine) (image_in flash d.engine) device.engine.memory well.truth well.pinned well.going (λ closed. (let on : d.read_only ≡ true = device.refuses closed in let no : ⊥ = cc in no))

-- ---- of so many turns one erases or changes nothing

module _ {N : Type 0} (view : View N) (engine_at : ℕ → Engine N) (pages : ℕ) where
  abbrev left_at : ℕ → ℕ
  left_at k = left (ram (engine_at k)) (image_in view.flash (engine_at k))

  abbrev IsFound : Type 0
  IsFound = (k : ℕ) × (k < pages) × ((engine_at (k + 1) ≡ engine_at k) ⊎ HasRisen (view.erases (engine_at k).nand) (view.erases (engine_at (k + 1)).nand))

  one_more : (n : ℕ) → n < pages → left_at n + n ≤ left_at 0 → HasFallen view (engine_at n) (engine_at (n + 1)) → IsFound ⊎ (left_at (n + 1) + (n + 1) ≤ left_at 0)
  one_more n lt le (inl same) = inl (n, lt, inl same)
  one_more n lt le (inr (inl rose)) = inl (n, lt, inr rose)
  one_more n lt le (inr (inr less)) = inr (omega (arith, le, less))

  so_far : ((k : ℕ) → k < pages → HasFallen view (engine_at k) (engine_at (k + 1))) → (n : ℕ) → n ≤ pages → IsFound ⊎ (left_at n + n ≤ left_at 0)
  so_far falls zero le = inr (omega arith)
  so_far falls (suc n) le = elim (so_far falls n (omega (arith, le))) [
    | inl found ↦ inl found
    | inr less ↦ (let next : n + 1 ≡ suc n = omega arith in let P : ℕ → Type 0 = λ k. IsFound ⊎ (left_at k + k ≤ left_at 0) in subst P next (one_more n (omega (arith, le)) less (falls n (omega (arith, le)))))
  ]

pub turns_law : {N : Type 0} (view : View N) → TurnsLaw view
turns_law view engine_at pages below falls = elim (so_far view engine_at pages falls pages (omega arith)) [
  | inl found ↦ found
  | inr less ↦ absurd (omega (arith, less, below))
]
