-- Which two bits of a page are turned.
use Rattle.std.proofs.Common.{◌≡◌, ◌⊎◌, inl, inr, ℕ, zero, suc, ◌+◌, ◌-◌, ◌<◌, ◌≤◌, Bool, true, false, cond, List, [], ◌∷◌, ◌++◌, length, Option, Some, None, refl, sym, ap, ◌∙◌, subst, arith}
use Rattle.std.specs.Prelude.{nat_le, is_some}
use Rattle.std.specs.List.{filter, flat_map, range_with_len, Contains}
use Rattle.std.proofs.lemmas.Bool.{cases_eq, true≢false}
use Rattle.std.proofs.lemmas.Bool.Decides.{nat_tests}
use Rattle.std.proofs.lemmas.List.Elements.{Contains-append_left, Contains-append_right, Contains-append_cases}
use Rattle.page_layout.specs.Page.{Page}
use Rattle.page_layout.specs.Block.{is_broken}
use Rattle.lab_dump.specs.PageBytes.{is_sound, bit_count, page_bit}
use Rattle.lab_mend.specs.declared.mending.Turned.{Turned}
use Rattle.lab_mend.specs.declared.pairs.BitPair.{BitPair}
use Rattle.lab_mend.specs.declared.pairs.BitTurn.{BitTurn}
use Rattle.lab_mend.specs.declared.pairs.BitTurn.TheVariants.{One, Two, Tied, Nothing}
use Rattle.lab_mend.specs.Bits.{with_bit_turned, DiffersAt}
use Rattle.lab_mend.specs.Mend.{erased_bit, first_turn, lowest_bit, mend_of}
use Rattle.lab_mend.specs.Repairing.{IsTurnTold}
use Rattle.lab_mend.specs.Trial.{differing_bits, turned_count, with_turned, HasBytes}
use Rattle.lab_mend.specs.Pairs.{second_bits, pairs_with, sound_pairs, by_pairs, one_or_two, page_turn_of, page_turned_by, turned_back, repaired, MakeSound, HasTwoPairs, TellsBitTurn, TurnLaw, DiffersInTwo, IsOneBitOff, AreTwoBitsOff, RepairedLaw, OnlyLaw, UnbrokenStaysLaw, AgainLaw}
use Rattle.lab_mend.proofs.BitLemmas.{count_turned, turned_law, turned_twice}
use Rattle.lab_mend.proofs.MendLemmas.{broken_from, made_by, made_whole, mend_broken, mend_law, sound_whole, unmended}
use Rattle.lab_mend.proofs.TrialLemmas.{alone, AreBits, bit_together, bits_once, either_in, in_turned, passes_from, passes_in, passing_bits}

-- ---- while they are tried

-- of the bits from this one on those whose turning makes the page sound
abbrev pub bits_from : Page → ℕ → ℕ → List ℕ
bits_from p k size = filter (λ l. is_sound (with_bit_turned p l)) (range_with_len k size)

-- the pairs from this lower bit on
abbrev pub pairs_from : Page → ℕ → ℕ → List BitPair
pairs_from p k size = flat_map (λ j. pairs_with j (second_bits (with_bit_turned p j) j)) (range_with_len k size)

pub second_is : (p : Page) (k : ℕ) → bits_from p (k + 1) (bit_count p - (k + 1)) ≡ second_bits p k
unfolding second_bits
second_is p k = refl

pub pairs_are : (p : Page) → pairs_from p 0 (bit_count p) ≡ sound_pairs p
unfolding sound_pairs
pairs_are p = refl

pub bits_found : (p : Page) (k n : ℕ) → k < n → is_sound (with_bit_turned p k) ≡ true → bits_from p k (n - k) ≡ k ∷ bits_from p (k + 1) (n - (k + 1))
bits_found p k n l is =
    let more : n - k ≡ suc (n - (k + 1)) = omega arith in
    ap (bits_from p k) more ∙ ap (λ b. cond b (k ∷ bits_from p (k + 1) (n - (k + 1))) (bits_from p (k + 1) (n - (k + 1)))) is

pub bits_passed : (p : Page) (k n : ℕ) → k < n → is_sound (with_bit_turned p k) ≡ false → bits_from p k (n - k) ≡ bits_from p (k + 1) (n - (k + 1))
bits_passed p k n l is =
    let more : n - k ≡ suc (n - (k + 1)) = omega arith in
    ap (bits_from p k) more ∙ ap (λ b. cond b (k ∷ bits_from p (k + 1) (n - (k + 1))) (bits_from p (k + 1) (n - (k + 1)))) is

pub bits_ended : (p : Page) (k n : ℕ) → n ≤ k → bits_from p k (n - k) ≡ []
bits_ended p k n l = let none : n - k ≡ 0 = omega arith in ap (bits_from p k) none

pub pairs_step : (p : Page) (k n : ℕ) → k < n → pairs_from p k (n - k) ≡ pairs_with k (second_bits (with_bit_turned p k) k) ++ pairs_from p (k + 1) (n - (k + 1))
pairs_step p k n l = let more : n - k ≡ suc (n - (k + 1)) = omega arith in ap (pairs_from p k) more

pub pairs_ended : (p : Page) (k n : ℕ) → n ≤ k → pairs_from p k (n - k) ≡ []
pairs_ended p k n l = let none : n - k ≡ 0 = omega arith in ap (pairs_from p k) none

-- ---- which pairs there are

abbrev pair_of : ℕ → ℕ → BitPair
pair_of k l = record { low = k; high = l }

-- the pair is of this bit and one of those
record IsWith (k : ℕ) (bits : List ℕ) (b : BitPair) : Type 0 where
  low_is : b.low ≡ k
  high_in : Contains bits b.high

with_from : (k : ℕ) (bits : List ℕ) (b : BitPair) → Contains (pairs_with k bits) b → IsWith k bits b
with_from k [] b at = absurd (let l = at.1 in omega arith)
with_from k (l ∷ ls) b at = elim (either_in (pair_of k l) b (pairs_with k ls) at) [
  | inl same ↦ subst (IsWith k (l ∷ ls)) same (record { low_is = refl; high_in = (0, omega arith, refl) })
  | inr later ↦ let h = with_from k ls b later in record { low_is = h.low_is; high_in = (suc h.high_in.0, (let m = h.high_in.1 in omega arith), h.high_in.2) }
]

with_in : (k l : ℕ) (bits : List ℕ) → Contains bits l → Contains (pairs_with k bits) (pair_of k l)
with_in k l [] at = absurd (let m = at.1 in omega arith)
with_in k l (x ∷ xs) at = elim (either_in x l xs at) [
  | inl same ↦ subst (λ y. Contains (pairs_with k (x ∷ xs)) (pair_of k y)) same (0, omega arith, refl)
  | inr later ↦ let h = with_in k l xs later in (suc h.0, (let m = h.1 in omega arith), h.2)
]

second_from : (p : Page) (k l : ℕ) → k < bit_count p → Contains (second_bits (with_bit_turned p k) k) l → MakeSound p k l
unfolding second_bits
second_from p k l within at =
    let h = passes_from (λ j. is_sound (with_bit_turned (with_bit_turned p k) j)) (k + 1) (bit_count (with_bit_turned p k) - (k + 1)) l at in
    let same : bit_count (with_bit_turned p k) ≡ bit_count p = count_turned p k in
    record { rising = (let low = h.low in omega arith); within = (let high = h.high in omega arith); sound = h.passes }

second_in : (p : Page) (k l : ℕ) → MakeSound p k l → Contains (second_bits (with_bit_turned p k) k) l
unfolding second_bits
second_in p k l h =
    let same : bit_count (with_bit_turned p k) ≡ bit_count p = count_turned p k in
    passes_in (λ j. is_sound (with_bit_turned (with_bit_turned p k) j)) (k + 1) (bit_count (with_bit_turned p k) - (k + 1)) l
    (record { low = (let up = h.rising in omega arith); high = (let up = h.rising in let within = h.within in omega arith); passes = h.sound })

-- the pair makes the page sound, and its lower bit is this one or a later one
record IsFrom (p : Page) (from : ℕ) (b : BitPair) : Type 0 where
  late : from ≤ b.low
  makes : MakeSound p b.low b.high

pairs_out : (p : Page) (from size : ℕ) (b : BitPair) → from + size ≤ bit_count p → Contains (pairs_from p from size) b → IsFrom p from b
pairs_out p from zero b le at = absurd (let l = at.1 in omega arith)
pairs_out p from (suc size) b le at = elim (Contains-append_cases (pairs_with from (second_bits (with_bit_turned p from) from)) (pairs_from p (from + 1) size) b at) [
  | inl here ↦
      let h = with_from from (second_bits (with_bit_turned p from) from) b here in
      record { late = (let e = h.low_is in omega arith); makes = subst (λ k. MakeSound p k b.high) (sym h.low_is) (second_from p from b.high (omega arith) h.high_in) }
  | inr later ↦ let h = pairs_out p (from + 1) size b (omega arith) later in record { late = (let l = h.late in omega arith); makes = h.makes }
]

pairs_in : (p : Page) (from size k l : ℕ) → from ≤ k → k < from + size → MakeSound p k l → Contains (pairs_from p from size) (pair_of k l)
pairs_in p from zero k l low high h = absurd (omega arith)
pairs_in p from (suc size) k l low high h = elim (cases_eq from k) [
  | inl same ↦
      Contains-append_left (pairs_with from (second_bits (with_bit_turned p from) from)) (pairs_from p (from + 1) size) (pair_of k l)
      (subst (λ x. Contains (pairs_with x (second_bits (with_bit_turned p x) x)) (pair_of k l)) (sym same) (with_in k l (second_bits (with_bit_turned p k) k) (second_in p k l h)))
  | inr ne ↦
      Contains-append_right (pairs_with from (second_bits (with_bit_turned p from) from)) (pairs_from p (from + 1) size) (pair_of k l)
      (pairs_in p (from + 1) size k l (omega arith) (omega arith) h)
]

pub sound_out : (p : Page) (b : BitPair) → Contains (sound_pairs p) b → MakeSound p b.low b.high
sound_out p b at = (pairs_out p 0 (bit_count p) b (omega arith) (subst (λ bs. Contains bs b) (sym (pairs_are p)) at)).makes

pub sound_in : (p : Page) (k l : ℕ) → MakeSound p k l → Contains (sound_pairs p) (pair_of k l)
sound_in p k l h =
    subst (λ bs. Contains bs (pair_of k l)) (pairs_are p) (pairs_in p 0 (bit_count p) k l (omega arith) (let up = h.rising in let within = h.within in omega arith) h)

-- ---- each of them once

abbrev AreOnce : List BitPair → Type 0
AreOnce [] = Unit {0}
AreOnce (b ∷ bs) = (Contains bs b → ⊥) × AreOnce bs

once_with : (n k : ℕ) (bits : List ℕ) → AreBits n bits → AreOnce (pairs_with k bits)
once_with n k [] are = tt
once_with n k (l ∷ ls) are = (λ at. are.1 ((with_from k ls (pair_of k l) at).high_in), once_with n k ls are.2)

once_append : (xs ys : List BitPair) → AreOnce xs → AreOnce ys → ((b : BitPair) → Contains xs b → Contains ys b → ⊥) → AreOnce (xs ++ ys)
once_append [] ys left right apart = right
once_append (x ∷ xs) ys left right apart = (
  λ at. elim (Contains-append_cases xs ys x at) [ inl here ↦ left.0 here | inr later ↦ apart x (0, omega arith, refl) later ],
  once_append xs ys left.1 right (λ b here later. apart b (suc here.0, (let l = here.1 in omega arith), here.2) later),
)

second_once : (p : Page) (k : ℕ) → k < bit_count p → AreBits (bit_count p) (second_bits p k)
unfolding second_bits
second_once p k l = passing_bits (λ j. is_sound (with_bit_turned p j)) (bit_count p) (k + 1) (bit_count p - (k + 1)) (omega arith)

pairs_once : (p : Page) (from size : ℕ) → from + size ≤ bit_count p → AreOnce (pairs_from p from size)
pairs_once p from zero le = tt
pairs_once p from (suc size) le =
    let same : bit_count (with_bit_turned p from) ≡ bit_count p = count_turned p from in
    once_append (pairs_with from (second_bits (with_bit_turned p from) from)) (pairs_from p (from + 1) size)
    (once_with (bit_count (with_bit_turned p from)) from (second_bits (with_bit_turned p from) from) (second_once (with_bit_turned p from) from (omega arith)))
    (pairs_once p (from + 1) size (omega arith))
    (λ b here later.
    let first = (with_from from (second_bits (with_bit_turned p from) from) b here).low_is in
    let late = (pairs_out p (from + 1) size b (omega arith) later).late in
    (omega arith))

sound_once : (p : Page) → AreOnce (sound_pairs p)
sound_once p = subst AreOnce (pairs_are p) (pairs_once p 0 (bit_count p) (omega arith))

-- ---- what is told

-- one pair
record IsOnly (p : Page) (b : BitPair) : Type 0 where
  makes : MakeSound p b.low b.high
  only : (k l : ℕ) → MakeSound p k l → (k ≡ b.low) × (l ≡ b.high)

only_from : (p : Page) (b : BitPair) → sound_pairs p ≡ b ∷ [] → IsOnly p b
only_from p b e = record {
  makes = sound_out p b (subst (λ bs. Contains bs b) (sym e) (0, omega arith, refl));
  only = λ k l h. (
      let at : Contains (b ∷ []) (pair_of k l) = subst (λ bs. Contains bs (pair_of k l)) e (sound_in p k l h) in
      elim (either_in b (pair_of k l) [] at) [
        | inl same ↦ (ap (λ (x : BitPair). x.low) (sym same), ap (λ (x : BitPair). x.high) (sym same))
        | inr none ↦ absurd (let m = none.1 in omega arith)
      ]
      );
}

two_from : (p : Page) (b c : BitPair) (more : List BitPair) → sound_pairs p ≡ b ∷ c ∷ more → HasTwoPairs p
two_from p b c more e = record {
  first = b;
  second = c;
  one = sound_out p b (subst (λ bs. Contains bs b) (sym e) (0, omega arith, refl));
  other = sound_out p c (subst (λ bs. Contains bs c) (sym e) (1, omega arith, refl));
  apart = λ same. (subst AreOnce e (sound_once p)).0 (0, omega arith, sym same);
}

none_left : (p : Page) → sound_pairs p ≡ [] → (k l : ℕ) → MakeSound p k l → ⊥
none_left p e k l h = let at : Contains [] (pair_of k l) = subst (λ bs. Contains bs (pair_of k l)) e (sound_in p k l h) in let m = at.1 in omega arith

same_turn : {t u : BitTurn} → Some t ≡ Some u → t ≡ u
same_turn e = cc

told_pairs : (p : Page) (t : BitTurn) → mend_of p ≡ None → (bs : List BitPair) → sound_pairs p ≡ bs → by_pairs bs ≡ t → TellsBitTurn p t
told_pairs p t none [] e is = subst (TellsBitTurn p) is (none, none_left p e)
told_pairs p t none (b ∷ []) e is = let h = only_from p b e in subst (TellsBitTurn p) is (none, h.makes, h.only)
told_pairs p t none (b ∷ c ∷ more) e is = subst (TellsBitTurn p) is (none, two_from p b c more e)

no_turn : {t : BitTurn} → None ≡ Some t → ⊥
no_turn e = cc

told_two : (p : Page) (t : BitTurn) → mend_of p ≡ None → (b : Bool) → cond b (Some (by_pairs (sound_pairs p))) None ≡ Some t → TellsBitTurn p t
told_two p t none true e = told_pairs p t none (sound_pairs p) refl (same_turn e)
told_two p t none false e = absurd (no_turn e)

told_by : (bits : ℕ) (p : Page) (t : BitTurn) (o : Option Turned) → mend_of p ≡ o → one_or_two bits p o ≡ Some t → TellsBitTurn p t
told_by bits p t (Some one) is e = subst (TellsBitTurn p) (same_turn e) is
told_by bits p t None is e = told_two p t is (nat_le 2 bits) e

pub turn_broken : (bits : ℕ) (p : Page) → is_broken p ≡ true → page_turn_of bits p ≡ one_or_two bits p (mend_of p)
unfolding page_turn_of
turn_broken bits p is = ap (λ b. cond b (one_or_two bits p (mend_of p)) None) is

pub turn_whole : (bits : ℕ) (p : Page) → is_broken p ≡ false → page_turn_of bits p ≡ None
unfolding page_turn_of
turn_whole bits p is = ap (λ b. cond b (one_or_two bits p (mend_of p)) None) is

-- what is turned of a broken page, by the bit that is turned first
pub turn_one : (bits : ℕ) (p : Page) (t : Turned) → is_broken p ≡ true → Some t ≡ first_turn (lowest_bit p) (erased_bit p) → Some (One t) ≡ page_turn_of bits p
turn_one bits p t is e = sym (turn_broken bits p is ∙ ap (one_or_two bits p) (mend_broken p is ∙ sym e))

pub turn_two : (bits : ℕ) (p : Page) → 2 ≤ bits → is_broken p ≡ true → None ≡ first_turn (lowest_bit p) (erased_bit p) → Some (by_pairs (sound_pairs p)) ≡ page_turn_of bits p
turn_two bits p some is e =
    let test : nat_le 2 bits ≡ true = grind (arith, nat_tests) in
    sym (turn_broken bits p is ∙ (ap (one_or_two bits p) (mend_broken p is ∙ sym e) ∙ ap (λ b. cond b (Some (by_pairs (sound_pairs p))) None) test))

pub turn_none : (bits : ℕ) (p : Page) → bits < 2 → is_broken p ≡ true → None ≡ first_turn (lowest_bit p) (erased_bit p) → None ≡ page_turn_of bits p
turn_none bits p few is e =
    let test : nat_le 2 bits ≡ false = grind (arith, nat_tests) in
    sym (turn_broken bits p is ∙ (ap (one_or_two bits p) (mend_broken p is ∙ sym e) ∙ ap (λ b. cond b (Some (by_pairs (sound_pairs p))) None) test))

-- the pair that is turned
pub two_makes : (p : Page) (b : BitPair) (t : BitTurn) → t ≡ by_pairs (sound_pairs p) → t ≡ Two b → MakeSound p b.low b.high
two_makes p b t found is = by (sound_pairs p) refl (sym found ∙ is)
  where
    same_pair : (x : BitPair) → Two x ≡ Two b → x ≡ b
    same_pair x e = cc

    by : (bs : List BitPair) → sound_pairs p ≡ bs → by_pairs bs ≡ Two b → MakeSound p b.low b.high
    by [] e none = absurd (cc)
    by (x ∷ []) e one = subst (λ (y : BitPair). MakeSound p y.low y.high) (same_pair x one) (only_from p x e).makes
    by (x ∷ y ∷ more) e many = absurd (cc)

pub turn_law : TurnLaw
turn_law bits p t e = by (is_broken p) refl
  where
    by : (b : Bool) → is_broken p ≡ b → (is_broken p ≡ true) × TellsBitTurn p t
    by true is = (is, told_by bits p t (mend_of p) refl (sym (turn_broken bits p is) ∙ e))
    by false is = absurd (no_turn (sym (turn_whole bits p is) ∙ e))

-- ---- the repaired page

pub repaired_by : (bits : ℕ) (p : Page) (o : Option BitTurn) → page_turn_of bits p ≡ o → repaired bits p ≡ page_turned_by p o
unfolding repaired
repaired_by bits p o e = ap (page_turned_by p) e

-- with what was turned turned back it is as it was
back_by : (bits : ℕ) (p : Page) (t : BitTurn) → page_turn_of bits p ≡ Some t → TellsBitTurn p t → turned_back (page_turned_by p (Some t)) (Some t) ≡ p
back_by bits p (One t) e tells = turned_twice p t.bit ((mend_law p t).0 tells).within
back_by bits p (Two b) e tells =
    let makes = tells.1 in
    ap (λ q. with_bit_turned q b.low) (turned_twice (with_bit_turned p b.low) b.high (let same = count_turned p b.low in let within = makes.within in omega arith))
    ∙ turned_twice p b.low (let up = makes.rising in let within = makes.within in omega arith)
back_by bits p Tied e tells = refl
back_by bits p Nothing e tells = refl

pub back_again : (bits : ℕ) (p : Page) → turned_back (repaired bits p) (page_turn_of bits p) ≡ p
back_again bits p = by (page_turn_of bits p) refl
  where
    by : (o : Option BitTurn) → page_turn_of bits p ≡ o → turned_back (repaired bits p) o ≡ p
    by None e = repaired_by bits p None e
    by (Some t) e = ap (λ q. turned_back q (Some t)) (repaired_by bits p (Some t) e) ∙ back_by bits p t e (turn_law bits p t e).1

-- what is told of a page is so of what is left of it
left_by : (p : Page) (t : BitTurn) → is_broken p ≡ true → TellsBitTurn p t → IsTurnTold t (page_turned_by p (Some t))
left_by p (One t) is tells =
    let mend = (mend_law p t).0 tells in
    (made_by p t.bit t.made mend.makes, subst (λ n. t.bit < n) (sym (count_turned p t.bit)) mend.within)
left_by p (Two b) is tells =
    let makes = tells.1 in
    (makes.sound, makes.rising, subst (λ n. b.high < n) (sym (count_turned (with_bit_turned p b.low) b.high ∙ count_turned p b.low)) makes.within)
left_by p Tied is tells = is
left_by p Nothing is tells = is

-- the page whose bits turned back are this one's is this one
again_by : (q : Page) (t : BitTurn) → TellsBitTurn (turned_back q (Some t)) t → page_turned_by (turned_back q (Some t)) (Some t) ≡ q
again_by q (One t) tells =
    let within = ((mend_law (with_bit_turned q t.bit) t).0 tells).within in
    turned_twice q t.bit (subst (λ n. t.bit < n) (count_turned q t.bit) within)
again_by q (Two b) tells =
    let makes = tells.1 in
    let same : bit_count (with_bit_turned (with_bit_turned q b.high) b.low) ≡ bit_count q = count_turned (with_bit_turned q b.high) b.low ∙ count_turned q b.high in
    let once : bit_count (with_bit_turned q b.high) ≡ bit_count q = count_turned q b.high in
    ap (λ r. with_bit_turned r b.high) (turned_twice (with_bit_turned q b.high) b.low (let up = makes.rising in let within = makes.within in omega arith))
    ∙ turned_twice q b.high (let within = makes.within in omega arith)
again_by q Tied tells = refl
again_by q Nothing tells = refl

pub left_so : (bits : ℕ) (q : Page) (t : BitTurn) → page_turn_of bits (turned_back q (Some t)) ≡ Some t → IsTurnTold t q
left_so bits q t e =
    let told = turn_law bits (turned_back q (Some t)) t e in
    subst (IsTurnTold t) (again_by q t told.1) (left_by (turned_back q (Some t)) t told.0 told.1)

pub again_law : AgainLaw
again_law bits p = by (page_turn_of bits p) refl
  where
    -- a page that is sound or erased stays as it is
    whole : (q : Page) → is_broken q ≡ false → repaired bits p ≡ q → repaired bits (repaired bits p) ≡ repaired bits p
    whole q is e = ap (repaired bits) e ∙ (repaired_by bits q None (turn_whole bits q is) ∙ sym e)

    by : (o : Option BitTurn) → page_turn_of bits p ≡ o → repaired bits (repaired bits p) ≡ repaired bits p
    by None e = ap (repaired bits) (repaired_by bits p None e)
    by (Some (One t)) e =
        let tells = (turn_law bits p (One t) e).1 in
        whole (with_bit_turned p t.bit) (made_whole t.made (with_bit_turned p t.bit) (made_by p t.bit t.made ((mend_law p t).0 tells).makes)) (repaired_by bits p (Some (One t)) e)
    by (Some (Two b)) e =
        let tells = (turn_law bits p (Two b) e).1 in
        whole (with_bit_turned (with_bit_turned p b.low) b.high) (sound_whole (with_bit_turned (with_bit_turned p b.low) b.high) tells.1.sound) (repaired_by bits p (Some (Two b)) e)
    by (Some Tied) e = ap (repaired bits) (repaired_by bits p (Some Tied) e)
    by (Some Nothing) e = ap (repaired bits) (repaired_by bits p (Some Nothing) e)

-- ---- two bits

-- a page that differs at one bit, and one that differs from that one at another
differs_twice : (p q r : Page) (b : BitPair) → b.low < b.high → b.high < bit_count p → DiffersAt p q b.low → DiffersAt q r b.high → DiffersInTwo p r b
differs_twice p q r b up within one two = record {
  apart = up;
  within = within;
  body_size = two.body_size ∙ one.body_size;
  spare_size = two.spare_size ∙ one.spare_size;
  others = λ j. (λ same. (low_not j same, high_not j same), λ away. (two.others j).1 away.1 ∙ (one.others j).1 away.0);
}
  where
    -- the lower bit is as in the page between, and other than in the first
    low_not : (j : ℕ) → page_bit r j ≡ page_bit p j → j ≡ b.low → ⊥
    low_not j same e =
        let kept : page_bit r j ≡ page_bit q j = (two.others j).1 (λ f. (omega arith)) in
        (one.others j).0 (sym kept ∙ same) e

    high_not : (j : ℕ) → page_bit r j ≡ page_bit p j → j ≡ b.high → ⊥
    high_not j same e =
        let kept : page_bit q j ≡ page_bit p j = (one.others j).1 (λ f. (omega arith)) in
        (two.others j).0 (same ∙ sym kept) e

-- two bits away, where two were turned
two_off : (bits : ℕ) (p : Page) (b : BitPair) → page_turn_of bits p ≡ Some (Two b) → AreTwoBitsOff bits p (repaired bits p)
two_off bits p b e =
    let makes = (turn_law bits p (Two b) e).1.1 in
    let is : with_bit_turned (with_bit_turned p b.low) b.high ≡ repaired bits p = sym (repaired_by bits p (Some (Two b)) e) in
    let same : bit_count (with_bit_turned p b.low) ≡ bit_count p = count_turned p b.low in
    let up = makes.rising in
    let within = makes.within in
    subst (AreTwoBitsOff bits p) is (record {
      pair = b;
      turn_is = e;
      sound = makes.sound;
      differs = differs_twice p (with_bit_turned p b.low) (with_bit_turned (with_bit_turned p b.low) b.high) b up within (turned_law p b.low (omega arith)) (turned_law (with_bit_turned p b.low) b.high (omega arith));
    })

one_off : (bits : ℕ) (p : Page) (t : Turned) → page_turn_of bits p ≡ Some (One t) → IsOneBitOff p (repaired bits p)
one_off bits p t e =
    let tells = (turn_law bits p (One t) e).1 in
    let mend = (mend_law p t).0 tells in
    subst (IsOneBitOff p) (sym (repaired_by bits p (Some (One t)) e)) (record { turn = t; mend_is = tells; made = made_by p t.bit t.made mend.makes; differs = turned_law p t.bit mend.within })

pub repaired_law : RepairedLaw
repaired_law bits p = by (page_turn_of bits p) refl
  where
    by : (o : Option BitTurn) → page_turn_of bits p ≡ o → (repaired bits p ≡ p) ⊎ IsOneBitOff p (repaired bits p) ⊎ AreTwoBitsOff bits p (repaired bits p)
    by None e = inl (repaired_by bits p None e)
    by (Some (One t)) e = inr (inl (one_off bits p t e))
    by (Some (Two b)) e = inr (inr (two_off bits p b e))
    by (Some Tied) e = inl (repaired_by bits p (Some Tied) e)
    by (Some Nothing) e = inl (repaired_by bits p (Some Nothing) e)

pub kept_law : UnbrokenStaysLaw
kept_law bits p is = repaired_by bits p None (turn_whole bits p is)

-- ---- no other page

-- the page has one of these bits turned
record HasOne (p : Page) (from size : ℕ) (q : Page) : Type 0 where
  bit : ℕ
  low : from ≤ bit
  high : bit < from + size
  is : with_bit_turned p bit ≡ q

one_later : (p q : Page) (from size : ℕ) → HasOne p (from + 1) size q → HasOne p from (suc size) q
one_later p q from size h = record { bit = h.bit; low = (let l = h.low in omega arith); high = (let l = h.high in omega arith); is = h.is }

zero_turned : (p q : Page) (bits : List ℕ) → Contains (with_turned p bits 0) q → p ≡ q
unfolding with_turned
zero_turned p q [] at = alone p q at
zero_turned p q (k ∷ ks) at = alone p q at

one_step : (p q : Page) (k : ℕ) (ks : List ℕ) → Contains (with_turned p (k ∷ ks) 1) q → (with_bit_turned p k ≡ q) ⊎ Contains (with_turned p ks 1) q
unfolding with_turned
one_step p q k ks at = elim (Contains-append_cases (with_turned (with_bit_turned p k) ks 0) (with_turned p ks 1) q at) [
  | inl here ↦ inl (zero_turned (with_bit_turned p k) q ks here)
  | inr later ↦ inr later
]

one_by : (p q : Page) (f : ℕ → Bool) (from size : ℕ) → (Contains (with_turned p (filter f (range_with_len (from + 1) size)) 1) q → HasOne p (from + 1) size q) → (b : Bool)
    → Contains (with_turned p (cond b (from ∷ filter f (range_with_len (from + 1) size)) (filter f (range_with_len (from + 1) size))) 1) q → HasOne p from (suc size) q
one_by p q f from size rest true at = elim (one_step p q from (filter f (range_with_len (from + 1) size)) at) [
  | inl here ↦ record { bit = from; low = omega arith; high = omega arith; is = here }
  | inr later ↦ one_later p q from size (rest later)
]
one_by p q f from size rest false at = one_later p q from size (rest at)

none_turned : (p q : Page) (n : ℕ) → Contains (with_turned p [] (suc n)) q → ⊥
unfolding with_turned
none_turned p q n at = let l = at.1 in omega arith

one_turned : (p q : Page) (f : ℕ → Bool) (from size : ℕ) → Contains (with_turned p (filter f (range_with_len from size)) 1) q → HasOne p from size q
one_turned p q f from zero at = absurd (none_turned p q 0 at)
one_turned p q f from (suc size) at = one_by p q f from size (one_turned p q f (from + 1) size) (f from) at

-- the page has two of these bits turned
record HasBoth (p : Page) (from size : ℕ) (q : Page) : Type 0 where
  first : ℕ
  second : ℕ
  low : from ≤ first
  up : first < second
  high : second < from + size
  is : with_bit_turned (with_bit_turned p first) second ≡ q

two_later : (p q : Page) (from size : ℕ) → HasBoth p (from + 1) size q → HasBoth p from (suc size) q
two_later p q from size h = record { first = h.first; second = h.second; low = (let l = h.low in omega arith); up = h.up; high = (let l = h.high in omega arith); is = h.is }

two_step : (p q : Page) (k : ℕ) (ks : List ℕ) → Contains (with_turned p (k ∷ ks) 2) q → Contains (with_turned (with_bit_turned p k) ks 1) q ⊎ Contains (with_turned p ks 2) q
unfolding with_turned
two_step p q k ks at = Contains-append_cases (with_turned (with_bit_turned p k) ks 1) (with_turned p ks 2) q at

two_by : (p q : Page) (f : ℕ → Bool) (from size : ℕ) → (Contains (with_turned p (filter f (range_with_len (from + 1) size)) 2) q → HasBoth p (from + 1) size q) → (b : Bool)
    → Contains (with_turned p (cond b (from ∷ filter f (range_with_len (from + 1) size)) (filter f (range_with_len (from + 1) size))) 2) q → HasBoth p from (suc size) q
two_by p q f from size rest true at = elim (two_step p q from (filter f (range_with_len (from + 1) size)) at) [
  | inl here ↦
      let h = one_turned (with_bit_turned p from) q f (from + 1) size here in
      record { first = from; second = h.bit; low = omega arith; up = (let l = h.low in omega arith); high = (let l = h.high in omega arith); is = h.is }
  | inr later ↦ two_later p q from size (rest later)
]
two_by p q f from size rest false at = two_later p q from size (rest at)

two_turned : (p q : Page) (f : ℕ → Bool) (from size : ℕ) → Contains (with_turned p (filter f (range_with_len from size)) 2) q → HasBoth p from size q
two_turned p q f from zero at = absurd (none_turned p q 1 at)
two_turned p q f from (suc size) at = two_by p q f from size (two_turned p q f (from + 1) size) (f from) at

-- a page is one of those with bits turned in which it differs
apart_in : (p q : Page) (n : ℕ) → HasBytes p → HasBytes q → length q.body ≡ length p.body → length q.spare ≡ length p.spare → turned_count p q ≡ n → Contains (with_turned p (differing_bits p (q ∷ [])) n) q
apart_in p q n left right body spare count =
    in_turned (differing_bits p (q ∷ [])) p q n (bits_once p (q ∷ [])) body spare left right (λ k l away. bit_together p q (q ∷ []) k l away (0, omega arith, refl)) count

two_here : (p q : Page) → HasBytes p → HasBytes q → length q.body ≡ length p.body → length q.spare ≡ length p.spare → turned_count p q ≡ 2 → HasBoth p 0 (bit_count p) q
unfolding differing_bits
two_here p q left right body spare count = two_turned p q _ 0 (bit_count p) (apart_in p q 2 left right body spare count)

one_here : (p q : Page) → HasBytes p → HasBytes q → length q.body ≡ length p.body → length q.spare ≡ length p.spare → turned_count p q ≡ 1 → HasOne p 0 (bit_count p) q
unfolding differing_bits
one_here p q left right body spare count = one_turned p q _ 0 (bit_count p) (apart_in p q 1 left right body spare count)

few_cases : (n : ℕ) → n ≤ 2 → (n ≡ 0) ⊎ (n ≡ 1) ⊎ (n ≡ 2)
few_cases zero l = inl refl
few_cases (suc zero) l = inr (inl refl)
few_cases (suc (suc zero)) l = inr (inr refl)
few_cases (suc (suc (suc n))) l = absurd (omega arith)

pub only_law : OnlyLaw
only_law bits p q b e left right body spare sound few = elim (few_cases (turned_count p q) few) [
  | inl none ↦
      let same : p ≡ q = zero_turned p q (differing_bits p (q ∷ [])) (apart_in p q 0 left right body spare none) in
      absurd (true≢false (sym sound ∙ (ap is_sound (sym same) ∙ ap is_some (broken_from p told.0).unsound)))
  | inr more ↦ elim more [
    | inl one ↦
        let h = one_here p q left right body spare one in
        absurd (true≢false (sym sound ∙ (ap is_sound (sym h.is) ∙ unmended p told.0 told.1.0 h.bit (let high = h.high in omega arith))))
    | inr two ↦
        let h = two_here p q left right body spare two in
        let same = told.1.2 h.first h.second (record { rising = h.up; within = (let high = h.high in omega arith); sound = ap is_sound h.is ∙ sound }) in
        sym h.is ∙ (ap (λ k. with_bit_turned (with_bit_turned p k) h.second) same.0 ∙ (ap (with_bit_turned (with_bit_turned p b.low)) same.1 ∙ sym (repaired_by bits p (Some (Two b)) e)))
  ]
]
  where
    told : (is_broken p ≡ true) × TellsBitTurn p (Two b)
    told = turn_law bits p (Two b) e
