-- How many pages were tried at most.
use Rattle.std.proofs.Common.{◌≡◌, ◌≢◌, ℕ, zero, suc, ◌+◌, ◌-◌, ◌*◌, ◌/◌, ◌%◌, ◌^◌, ◌<◌, ◌≤◌, List, [], ◌∷◌, ◌++◌, length, get_or, take, refl, sym, ap, ◌∙◌, arith, lit<}
use Rattle.std.specs.Prelude.{min, sum_by}
use Rattle.std.proofs.Math.Nat.{pow-le-pow_right}
use Rattle.std.proofs.lemmas.Nat.{pow_below}
use Rattle.std.proofs.lemmas.List.{take_all}
use Rattle.std.proofs.lemmas.List.Sums.{sum_by-append, sum_by-cons, sum_by_more}
use Rattle.lab_mend.specs.declared.merging.TriedRow.{TriedRow}
use Rattle.lab_mend.specs.declared.mending.Turned.{Turned}
use Rattle.lab_mend.specs.declared.pairs.BitTurn.{BitTurn}
use Rattle.lab_mend.specs.declared.pairs.BitTurn.TheVariants as turn
use Rattle.lab_mend.specs.declared.repairing.Mend.{Mend}
use Rattle.lab_mend.specs.Tries.{TriesLaw, TurnTriesLaw, differing, tries_in, tries_of, turn_tries}

pub few_ways : (n : ℕ) → n < 64 → 1 * 2 ^ n % 2 ^ 64 ≡ min (2 ^ n) (2 ^ 64 - 1)
few_ways n l = let low : 2 ^ n < 2 ^ 64 = pow_below n 64 l in omega arith

pub many_ways : (n : ℕ) → 64 ≤ n → 2 ^ 64 - 1 ≡ min (2 ^ n) (2 ^ 64 - 1)
many_ways n l = let high : 2 ^ 64 ≤ 2 ^ n = pow-le-pow_right {n = 2} (lit< tt) l in omega arith

least_sum : (a b m : ℕ) → min (min a m + min b m) m ≡ min (a + b) m
least_sum a b m = omega arith

pub tries_more : (tried : List TriedRow) (n tries : ℕ) (r : TriedRow) → n < length tried → get_or tried n r ≡ r → tries ≡ min (sum_by (λ x. 2 ^ differing x.trial) (take n tried)) (2 ^ 64 - 1)
    → min (tries + min (2 ^ differing r.trial) (2 ^ 64 - 1)) (2 ^ 64 - 1) ≡ min (sum_by (λ x. 2 ^ differing x.trial) (take (n + 1) tried)) (2 ^ 64 - 1)
tries_more tried n tries r l at e =
    let f : TriedRow → ℕ = λ x. 2 ^ differing x.trial in
    let m : ℕ = 2 ^ 64 - 1 in
    let step : sum_by f (take (n + 1) tried) ≡ sum_by f (take n tried) + f r = sum_by_more f tried n r l ∙ ap (λ x. sum_by f (take n tried) + f x) at in
    ap (λ k. min (k + min (f r) m) m) e ∙ (least_sum (sum_by f (take n tried)) (f r) m ∙ ap (λ k. min k m) (sym step))

pub tries_all : (tried : List TriedRow) (n tries : ℕ) → length tried ≤ n → tries ≡ min (sum_by (λ x. 2 ^ differing x.trial) (take n tried)) (2 ^ 64 - 1) → tries ≡ tries_in tried
unfolding tries_in
tries_all tried n tries l e = e ∙ ap (λ xs. min (sum_by (λ x. 2 ^ differing x.trial) xs) (2 ^ 64 - 1)) (take_all n tried l)

pub turn_tries_all : (bits : ℕ) (mends : List Mend) (n tries : ℕ) → length mends ≤ n → tries ≡ min (sum_by (λ m. tries_of bits m.turn) (take n mends)) (2 ^ 64 - 1) → tries ≡ turn_tries bits mends
unfolding turn_tries
turn_tries_all bits mends n tries l e = e ∙ ap (λ ms. min (sum_by (λ m. tries_of bits m.turn) ms) (2 ^ 64 - 1)) (take_all n mends l)

-- ---- the laws

one_sum : {X : Type 0} (f : X → ℕ) (x : X) → sum_by f (x ∷ []) ≡ f x
one_sum f x = sum_by-cons f x [] ∙ omega arith

tries_one : (r : TriedRow) (d : ℕ) → differing r.trial ≡ d → tries_in (r ∷ []) ≡ min (2 ^ d) (2 ^ 64 - 1)
unfolding tries_in
tries_one r d e = ap (λ k. min k (2 ^ 64 - 1)) (one_sum (λ x. 2 ^ differing x.trial) r ∙ ap (λ k. 2 ^ k) e)

tries_together : (rs qs : List TriedRow) → tries_in (rs ++ qs) ≡ min (tries_in rs + tries_in qs) (2 ^ 64 - 1)
unfolding tries_in
tries_together rs qs =
    let f : TriedRow → ℕ = λ x. 2 ^ differing x.trial in
    ap (λ k. min k (2 ^ 64 - 1)) (sum_by-append f rs qs) ∙ sym (least_sum (sum_by f rs) (sum_by f qs) (2 ^ 64 - 1))

pub tries_law : TriesLaw
tries_law = record {
  taken = λ r n d e. tries_one r d (ap differing e);
  tied = λ r n d e. tries_one r d (ap differing e);
  nothing = λ r d e. tries_one r d (ap differing e);
  together = tries_together;
}

turn_one : (bits : ℕ) (m : Mend) (n : ℕ) → tries_of bits m.turn ≡ n → turn_tries bits (m ∷ []) ≡ min n (2 ^ 64 - 1)
unfolding turn_tries
turn_one bits m n e = ap (λ k. min k (2 ^ 64 - 1)) (one_sum (λ (x : Mend). tries_of bits x.turn) m ∙ e)

turn_together : (bits : ℕ) (ms ns : List Mend) → turn_tries bits (ms ++ ns) ≡ min (turn_tries bits ms + turn_tries bits ns) (2 ^ 64 - 1)
unfolding turn_tries
turn_together bits ms ns =
    let f : Mend → ℕ = λ x. tries_of bits x.turn in
    ap (λ k. min k (2 ^ 64 - 1)) (sum_by-append f ms ns) ∙ sym (least_sum (sum_by f ms) (sum_by f ns) (2 ^ 64 - 1))

-- each bit, and each two bits
pair_count : (bits : ℕ) → bits + bits * (bits - 1) / 2 ≡ bits * (bits + 1) / 2
pair_count zero = refl
pair_count (suc n) =
    let less : suc n - 1 ≡ n = omega arith in
    let few : suc n * (suc n - 1) ≡ n * n + n = ap (λ k. suc n * k) less ∙ omega arith in
    let all : suc n * (suc n + 1) ≡ n * n + n + 2 * suc n = omega arith in
    let half : suc n + (n * n + n) / 2 ≡ (n * n + n + 2 * suc n) / 2 = omega arith in
    ap (λ k. suc n + k / 2) few ∙ (half ∙ sym (ap (λ k. k / 2) all))

no_single : (bits : ℕ) (b : BitTurn) → ((t : Turned) → b ≢ turn.One t) → tries_of bits b ≡ bits + bits * (bits - 1) / 2
no_single bits (turn.One t) other = absurd (other t refl)
no_single bits _ other = refl

pub turn_tries_law : TurnTriesLaw
turn_tries_law = record {
  single = λ bits m t e. turn_one bits m bits (ap (tries_of bits) e);
  pairs = λ bits m other. turn_one bits m (bits * (bits + 1) / 2) (no_single bits m.turn other ∙ pair_count bits);
  together = turn_together;
}
