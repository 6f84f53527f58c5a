-- A block holds at most as many newest pages as it has pages.
use Rattle.std.proofs.Common.{◌≡◌, ℕ, zero, suc, ◌+◌, ◌*◌, ◌/◌, ◌<◌, ◌≤◌, Bool, true, false, eqb, List, [], ◌∷◌, length, get_or, Option, Some, None}
use Rattle.std.proofs.Common.{refl, sym, ap, subst, ◌∙◌, arith}
use Rattle.std.specs.Prelude.{count_by, sum_by}
use Rattle.std.specs.List.{range_with_len}
use Rattle.std.proofs.lemmas.Bool.{eqb-true}
use Rattle.std.proofs.lemmas.List.Sums.{sum_by-cons}
use Rattle.std.proofs.Math.Nat.{mul_comm}
use Rattle.page_layout.specs.declared.geometry.Geometry.{Geometry}
use Rattle.page_layout.specs.declared.record.Record.{Record}
use Rattle.page_layout.specs.declared.record.Key.{Key}
use Rattle.page_layout.specs.Key.{key_of, key_eq}
use Rattle.page_layout.specs.Newest.{newest}
use Rattle.page_layout.specs.Live.{keys, live, is_in_block}
use Rattle.page_layout.proofs.CountLemmas.{bit, bit-le, count_by-cons, count_by_none, sum_of_counts, count_in_range_is}
use Rattle.page_layout.proofs.KeyLemmas.{key_eq-same}
use Rattle.page_layout.proofs.LiveLemmas.{key_once}
use Rattle.page_layout.proofs.NewestLemmas.{newest-record}
use Rattle.image_check.specs.Agrees.{AreInRange}

-- the row is this one
row_is : Option ℕ → ℕ → Bool
row_is None row = false
row_is (Some q) row = eqb q row

bit_of : (a b : Bool) → (a ≡ true → b ≡ true) → bit a ≤ bit b
bit_of true b h = let e : b ≡ true = h refl in rw e (omega arith)
bit_of false b h = omega arith

count_most : {X : Type 0} (p q : X → Bool) (xs : List X) → ((x : X) → p x ≡ true → q x ≡ true) → count_by p xs ≤ count_by q xs
count_most p q [] h = omega arith
count_most p q (x ∷ xs) h = let rest = count_most p q xs h in let one = bit_of (p x) (q x) (h x) in let e1 = count_by-cons p x xs in let e2 = count_by-cons q x xs in omega arith

count_within : {X : Type 0} (p : X → Bool) (f : X → ℕ) (xs : List X) → ((x : X) → bit (p x) ≤ f x) → count_by p xs ≤ sum_by f xs
count_within p f [] h = omega arith
count_within p f (x ∷ xs) h = let rest = count_within p f xs h in let one = h x in let e1 = count_by-cons p x xs in let e2 = sum_by-cons f x xs in omega arith

some_row : (a : Option ℕ) (row : ℕ) → row_is a row ≡ true → a ≡ Some row
unfolding row_is
some_row None row e = absurd cc
some_row (Some q) row e = ap Some (eqb-true q row e)

-- at most one key has its newest page in a row
one_key : (g : Geometry) (marks : List (Option Record)) (row : ℕ) → AreInRange g marks → count_by (λ key. row_is (newest marks key) row) (keys g) ≤ 1
one_key g marks row numbers = by_mark (get_or marks row None) refl
  where
    never : (key : Key) (b : Bool) → row_is (newest marks key) row ≡ b → get_or marks row None ≡ None → row_is (newest marks key) row ≡ false
    never key false e none = e
    never key true e none =
        let found = newest-record marks key row (some_row (newest marks key) row e) in
        absurd (let clash : None ≡ Some found.0 = sym none ∙ found.1 in cc)

    by_mark : (o : Option Record) → get_or marks row None ≡ o → count_by (λ key. row_is (newest marks key) row) (keys g) ≤ 1
    by_mark None e =
        let none = count_by_none (λ key. row_is (newest marks key) row) (keys g) (λ key. never key (row_is (newest marks key) row) refl e) in
        omega arith
    by_mark (Some r) e =
        let few = count_most (λ key. row_is (newest marks key) row) (key_eq (key_of r)) (keys g) (λ key t.
        let found = newest-record marks key row (some_row (newest marks key) row t) in
        let both : Some found.0 ≡ Some r = sym found.1 ∙ e in
        let same : found.0 ≡ r = cc in
        let of_key : key_of r ≡ key = ap key_of (sym same) ∙ found.2 in
        subst (λ k. key_eq (key_of r) k ≡ true) of_key (key_eq-same (key_of r))) in
        let once = key_once g (key_of r) (numbers.in_range row r e) in
        omega arith

length-range : (a n : ℕ) → length (range_with_len a n) ≡ n
length-range a zero = refl
length-range a (suc n) = let h = length-range (a + 1) n in omega arith

within_block : (pages b q : ℕ) → 0 < pages → q / pages ≡ b → (b * pages ≤ q) × (q < b * pages + pages)
within_block pages b q some e =
    let c : pages * (q / pages) ≡ b * pages = rw e (mul_comm pages b) in
    (omega arith, omega arith)

in_rows : (pages b : ℕ) (o : Option ℕ) → 0 < pages → bit (is_in_block pages b o) ≤ count_by (λ row. row_is o row) (range_with_len (b * pages) pages)
unfolding row_is
in_rows pages b None some = omega arith
in_rows pages b (Some q) some = by_test (eqb (q / pages) b) refl
  where
    by_test : (t : Bool) → eqb (q / pages) b ≡ t → bit (eqb (q / pages) b) ≤ count_by (λ row. eqb q row) (range_with_len (b * pages) pages)
    by_test true e =
        let l = within_block pages b q some (eqb-true (q / pages) b e) in
        let one = count_in_range_is q (b * pages) pages l.0 l.1 in
        let small = bit-le (eqb (q / pages) b) in
        omega arith
    by_test false e = rw e (omega arith)

pub live_most : (g : Geometry) (marks : List (Option Record)) (b : ℕ) → AreInRange g marks → live g marks b ≤ g.pages
unfolding live
live_most g marks b numbers =
    let rows = range_with_len (b * g.pages) g.pages in
    let some : 0 < g.pages = let least = g.limits.page_count.least in omega arith in
    let all = sum_of_counts (λ (key : Key) (row : ℕ). row_is (newest marks key) row) (keys g) rows (λ row. one_key g marks row numbers) in
    let few = count_within (λ key. is_in_block g.pages b (newest marks key)) (λ key. count_by (λ row. row_is (newest marks key) row) rows) (keys g) (λ key. in_rows g.pages b (newest marks key) some) in
    let size = length-range (b * g.pages) g.pages in
    omega arith
