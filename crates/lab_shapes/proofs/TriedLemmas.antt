-- The arrangements that are tried, by their numbers.
use Rattle.std.proofs.Common.{◌≡◌, ℕ, zero, suc, ◌+◌, ◌*◌, ◌-◌, ◌/◌, ◌%◌, ◌<◌, ◌≤◌, Bool, true, false, cond, get_or, Option, Some, None, inl, inr, refl, sym, ap, ◌∙◌, subst, arith}
use Rattle.std.specs.Prelude.{◌⊎◌, nat_eq, nat_lt}
use Rattle.std.specs.List.{Contains}
use Rattle.std.proofs.lemmas.Bool.{cases_lt, lt-ltb, le-ltb}
use Rattle.std.proofs.lemmas.List.{get_or_default}
use Rattle.lab_arrange.specs.declared.arrangement.Arrangement.{Arrangement}
use Rattle.lab_arrange.specs.declared.arrangement.Spares.{Spares}
use Rattle.lab_arrange.specs.declared.arrangement.Spares.TheVariants.{Block, Die}
use Rattle.lab_shapes.specs.declared.tried.Way.{Way}
use Rattle.lab_shapes.specs.declared.tried.Way.TheVariants.{Cut, Order}
use Rattle.lab_shapes.specs.Tried.{IsAround, IsOfWay, IsTried, IsTriedWay, IsUncut, TriedLaw, around_of, around_sizes, numbered, spares_of, way_numbered}

abbrev Around : Type 0
Around = Option ℕ × Option ℕ

-- ---- each number has one that is tried

-- which it is, by its number
around_when : (n : ℕ) (b c : Bool) → nat_eq n 0 ≡ b → nat_lt n 14 ≡ c → around_of n ≡ cond b (None, None) (cond c (Some (get_or around_sizes (n - 1) 0), None) (None, Some (get_or around_sizes (n - 14) 0)))
around_when n b c e f =
    ap (λ (x : Bool). cond x (None, None) (cond (nat_lt n 14) (Some (get_or around_sizes (n - 1) 0), None) (None, Some (get_or around_sizes (n - 14) 0)))) e
    ∙ ap (λ (x : Bool). cond b (None, None) (cond x (Some (get_or around_sizes (n - 1) 0), None) (None, Some (get_or around_sizes (n - 14) 0)))) f

nonzero : (m : ℕ) → 0 < m → nat_eq m 0 ≡ false
nonzero zero l = absurd (omega arith)
nonzero (suc m) l = grind arith

around_none : around_of 0 ≡ (None, None)
around_none = refl

around_header : (k : ℕ) → k < 13 → around_of (k + 1) ≡ (Some (get_or around_sizes k 0), None)
around_header k l =
    let back : k + 1 - 1 ≡ k = omega arith in
    around_when (k + 1) false true (nonzero (k + 1) (omega arith)) (lt-ltb (k + 1) 14 (omega arith)) ∙ ap (λ i. (Some (get_or around_sizes i 0), None)) back

around_tail : (k : ℕ) → around_of (k + 14) ≡ (None, Some (get_or around_sizes k 0))
around_tail k =
    let back : k + 14 - 14 ≡ k = omega arith in
    around_when (k + 14) false false (nonzero (k + 14) (omega arith)) (le-ltb (k + 14) 14 (omega arith)) ∙ ap (λ i. (None, Some (get_or around_sizes i 0))) back

abbrev IsAroundOf : Around → Type 0
IsAroundOf a = IsAround a.0 a.1

size_at : (k : ℕ) → k < 13 → Contains around_sizes (get_or around_sizes k 0)
size_at k l = (k, l, get_or_default around_sizes k _ 0 l)

pub around_tried : (n : ℕ) → n < 27 → IsAroundOf (around_of n)
around_tried zero l = tt
around_tried (suc n) l = by (cases_lt n 13)
  where
    by : (n < 13) ⊎ (13 ≤ n) → IsAroundOf (around_of (suc n))
    by (inl k) =
        let here : n + 1 ≡ suc n = omega arith in
        subst (λ i. IsAroundOf (around_of i)) here (subst IsAroundOf (sym (around_header n k)) (size_at n k))
    by (inr k) =
        let here : n - 13 + 14 ≡ suc n = omega arith in
        subst (λ i. IsAroundOf (around_of i)) here (subst IsAroundOf (sym (around_tail (n - 13))) (size_at (n - 13) (omega arith)))

pub numbered_tried : (n : ℕ) → n < 1296 → IsUncut (numbered n)
unfolding numbered
numbered_tried n l = record { around = around_tried (n / 48) (omega arith); whole = refl }

-- ---- and each that is tried has a number

record HasAround (header tail : Option ℕ) : Type 0 where
  number : ℕ
  below : number < 27
  is : around_of number ≡ (header, tail)

around_number : (header tail : Option ℕ) → IsAround header tail → HasAround header tail
around_number None None h = record { number = 0; below = omega arith; is = around_none }
around_number (Some x) None (k, l, e) =
    let same : get_or around_sizes k 0 ≡ x = get_or_default around_sizes k 0 x l ∙ e in
    record { number = k + 1; below = omega arith; is = around_header k l ∙ ap (λ z. (Some z, None)) same }
around_number None (Some x) (k, l, e) =
    let same : get_or around_sizes k 0 ≡ x = get_or_default around_sizes k 0 x l ∙ e in
    record { number = k + 14; below = omega arith; is = around_tail k ∙ ap (λ z. (None, Some z)) same }
around_number (Some x) (Some y) h = absurd h

record HasSpares (s : Option Spares) : Type 0 where
  number : ℕ
  below : number < 3
  is : spares_of number ≡ s

spares_number : (s : Option Spares) → HasSpares s
spares_number None = record { number = 0; below = omega arith; is = refl }
spares_number (Some Block) = record { number = 1; below = omega arith; is = refl }
spares_number (Some Die) = record { number = 2; below = omega arith; is = refl }

record HasBit (b : Bool) : Type 0 where
  number : ℕ
  below : number < 2
  is : nat_eq number 1 ≡ b

bit_number : (b : Bool) → HasBit b
bit_number false = record { number = 0; below = omega arith; is = refl }
bit_number true = record { number = 1; below = omega arith; is = refl }

record HasParts (n k s f w i p : ℕ) : Type 0 where
  below : n < 1296
  around : n / 48 ≡ k
  spares : n % 3 ≡ s
  first : n / 3 % 2 ≡ f
  swapped : n / 6 % 2 ≡ w
  inverted : n / 12 % 2 ≡ i
  planes : n / 24 % 2 ≡ p

parts_of : (n k s f w i p : ℕ) → n ≡ 48 * k + 24 * p + 12 * i + 6 * w + 3 * f + s → k < 27 → s < 3 → f < 2 → w < 2 → i < 2 → p < 2 → HasParts n k s f w i p
parts_of n k s f w i p e a b c d h j = record {
  below = omega arith;
  around = omega arith;
  spares = omega arith;
  first = omega arith;
  swapped = omega arith;
  inverted = omega arith;
  planes = omega arith;
}

abbrev made : Option ℕ → Option ℕ → Option Spares → (first swapped inverted planes : Bool) → Arrangement
made header tail spares first swapped inverted planes = record { header = header; tail = tail; cut = None; spares = spares; spare_first = first; swapped = swapped; inverted = inverted; planes = planes }

same_whole : (b : Arrangement) → b.cut ≡ None → made b.header b.tail b.spares b.spare_first b.swapped b.inverted b.planes ≡ b
same_whole b e = ap (λ c. record { header = b.header; tail = b.tail; cut = c; spares = b.spares; spare_first = b.spare_first; swapped = b.swapped; inverted = b.inverted; planes = b.planes }) (sym e)

abbrev made_of : Around → Option Spares → (first swapped inverted planes : Bool) → Arrangement
made_of a spares first swapped inverted planes = made a.0 a.1 spares first swapped inverted planes

pub record HasNumber (a : Arrangement) : Type 0 where
  pub number : ℕ
  pub below : number < 1296
  pub is : numbered number ≡ a

pub tried_number : (a : Arrangement) → IsUncut a → HasNumber a
unfolding numbered
tried_number a h =
    let r = around_number a.header a.tail h.around in
    let s = spares_number a.spares in
    let f = bit_number a.spare_first in
    let w = bit_number a.swapped in
    let i = bit_number a.inverted in
    let p = bit_number a.planes in
    let n : ℕ = 48 * r.number + 24 * p.number + 12 * i.number + 6 * w.number + 3 * f.number + s.number in
    let parts = parts_of n r.number s.number f.number w.number i.number p.number refl r.below s.below f.below w.below i.below p.below in
    let around : around_of (n / 48) ≡ (a.header, a.tail) = ap around_of parts.around ∙ r.is in
    let spares : spares_of (n % 3) ≡ a.spares = ap spares_of parts.spares ∙ s.is in
    let first : nat_eq (n / 3 % 2) 1 ≡ a.spare_first = ap (λ k. nat_eq k 1) parts.first ∙ f.is in
    let swapped : nat_eq (n / 6 % 2) 1 ≡ a.swapped = ap (λ k. nat_eq k 1) parts.swapped ∙ w.is in
    let inverted : nat_eq (n / 12 % 2) 1 ≡ a.inverted = ap (λ k. nat_eq k 1) parts.inverted ∙ i.is in
    let planes : nat_eq (n / 24 % 2) 1 ≡ a.planes = ap (λ k. nat_eq k 1) parts.planes ∙ p.is in
    record {
      number = n;
      below = parts.below;
      is = ap (λ x. made_of x (spares_of (n % 3)) (nat_eq (n / 3 % 2) 1) (nat_eq (n / 6 % 2) 1) (nat_eq (n / 12 % 2) 1) (nat_eq (n / 24 % 2) 1)) around
          ∙ (ap (λ x. made a.header a.tail x (nat_eq (n / 3 % 2) 1) (nat_eq (n / 6 % 2) 1) (nat_eq (n / 12 % 2) 1) (nat_eq (n / 24 % 2) 1)) spares
          ∙ (ap (λ x. made a.header a.tail a.spares x (nat_eq (n / 6 % 2) 1) (nat_eq (n / 12 % 2) 1) (nat_eq (n / 24 % 2) 1)) first
          ∙ (ap (λ x. made a.header a.tail a.spares a.spare_first x (nat_eq (n / 12 % 2) 1) (nat_eq (n / 24 % 2) 1)) swapped
          ∙ (ap (λ x. made a.header a.tail a.spares a.spare_first a.swapped x (nat_eq (n / 24 % 2) 1)) inverted
          ∙ (ap (λ x. made a.header a.tail a.spares a.spare_first a.swapped a.inverted x) planes ∙ same_whole a h.whole)))));
    }

back : (a : Arrangement) → ((n : ℕ) × (n < 1296) × (numbered n ≡ a)) → IsUncut a
back a (n, l, e) = subst IsUncut e (numbered_tried n l)

pub tried_law : TriedLaw
tried_law a = ((λ h. (let k = tried_number a h in (k.number, k.below, k.is))), back a)

-- ---- the ways

order_way : (n : ℕ) → n < 1296 → way_numbered n ≡ Order (numbered n)
order_way n l = ap (λ b. cond b (Order (numbered n)) Cut) (lt-ltb n 1296 l)

cut_way : (n : ℕ) → 1296 ≤ n → way_numbered n ≡ Cut
cut_way n l = ap (λ b. cond b (Order (numbered n)) Cut) (le-ltb n 1296 l)

-- each number has one that is tried
pub way_tried : (n : ℕ) → IsTriedWay (way_numbered n)
way_tried n = by (cases_lt n 1296)
  where
    by : (n < 1296) ⊎ (1296 ≤ n) → IsTriedWay (way_numbered n)
    by (inl l) = subst IsTriedWay (sym (order_way n l)) (numbered_tried n l)
    by (inr l) = subst IsTriedWay (sym (cut_way n l)) tt

pub tried_of_way : (w : Way) (a : Arrangement) → IsTriedWay w → IsOfWay w a → IsTried a
tried_of_way (Order b) a tried is = inl (subst IsUncut (sym is) tried)
tried_of_way Cut a tried is = inr is

-- and what is tried is of one
pub record HasWay (a : Arrangement) : Type 0 where
  pub number : ℕ
  pub below : number < 1297
  pub is : IsOfWay (way_numbered number) a

pub way_number : (a : Arrangement) → IsTried a → HasWay a
way_number a (inl h) =
    let k = tried_number a h in
    let l = k.below in
    record { number = k.number; below = omega arith; is = subst (λ w. IsOfWay w a) (sym (order_way k.number k.below)) (sym k.is) }
way_number a (inr h) = record { number = 1296; below = omega arith; is = subst (λ w. IsOfWay w a) (sym (cut_way 1296 (omega arith))) h }
