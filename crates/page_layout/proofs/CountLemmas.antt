-- Counts and sums over lists.
use Rattle.std.proofs.Common.{◌≡◌, ◌⊎◌, inl, inr, ℕ, zero, suc, ◌+◌, ◌*◌, ◌/◌, ◌<◌, ◌≤◌, Bool, true, false, cond, eqb, List, [], ◌∷◌, ◌++◌, length}
use Rattle.std.proofs.Common.{map, refl, ap, subst, sym, ◌∙◌, arith}
use Rattle.std.specs.Prelude.{count_by, sum_by}
use Rattle.std.specs.List.{AllByRecursion, range_with_len}
use Rattle.std.proofs.lemmas.Bool.{cases_Bool, cases_eq, eq-eqb, ne_eqb, leb-true, leb-false}
use Rattle.std.proofs.lemmas.List.Sums.{sum_by-cons, sum_by-append}
use Rattle.std.proofs.Math.Nat.{lt-mul-div-succ, mul-le-mul_left, mul-suc}
use lib.Dec.{leb}

-- one where the test passes
abbrev pub bit : Bool → ℕ
bit b = cond b 1 0

pub bit-le : (b : Bool) → bit b ≤ 1
bit-le true = omega arith
bit-le false = omega arith

pub count_by-cons : {X : Type 0} (p : X → Bool) (x : X) (xs : List X) → count_by p (x ∷ xs) ≡ bit (p x) + count_by p xs
count_by-cons p x xs = sum_by-cons (λ y. bit (p y)) x xs

pub count_by-append : {X : Type 0} (p : X → Bool) (xs ys : List X) → count_by p (xs ++ ys) ≡ count_by p xs + count_by p ys
count_by-append p xs ys = sum_by-append (λ y. bit (p y)) xs ys

-- tests that agree count the same
pub count_by-same : {X : Type 0} (p q : X → Bool) (xs : List X) → ((x : X) → p x ≡ q x) → count_by p xs ≡ count_by q xs
count_by-same p q [] same = refl
count_by-same p q (x ∷ xs) same =
    count_by-cons p x xs ∙ (rw (same x, count_by-same p q xs same) (sym (count_by-cons q x xs)))

-- a sum of sums of two
pub sum_by-add : {X : Type 0} (f g : X → ℕ) (xs : List X) → sum_by (λ x. f x + g x) xs ≡ sum_by f xs + sum_by g xs
sum_by-add f g [] = refl
sum_by-add f g (x ∷ xs) =
    omega (arith, sum_by-add f g xs, sum_by-cons (λ y. f y + g y) x xs, sum_by-cons f x xs, sum_by-cons g x xs)

pub sum_by-same : {X : Type 0} (f g : X → ℕ) (xs : List X) → ((x : X) → f x ≡ g x) → sum_by f xs ≡ sum_by g xs
sum_by-same f g [] same = refl
sum_by-same f g (x ∷ xs) same = omega (arith, sum_by-same f g xs same, sum_by-cons f x xs, sum_by-cons g x xs, same x)

pub sum_by_zero : {X : Type 0} (xs : List X) → sum_by (λ (x : X). 0) xs ≡ 0
sum_by_zero [] = refl
sum_by_zero {X = X} (x ∷ xs) = omega (arith, sum_by_zero xs, sum_by-cons (λ (y : X). 0) x xs)

-- each key passes the tests of at most one block: all blocks together count at most the keys
pub sum_of_counts : {B K : Type 0} (test : B → K → Bool) (bs : List B) (ks : List K) → ((k : K) → count_by (λ b. test b k) bs ≤ 1) → sum_by (λ b. count_by (test b) ks) bs ≤ length ks
sum_of_counts test bs [] one = omega (arith, sum_by_zero bs)
sum_of_counts test bs (k ∷ ks) one =
    let split : sum_by (λ b. count_by (test b) (k ∷ ks)) bs ≡ sum_by (λ b. bit (test b k) + count_by (test b) ks) bs =
    sum_by-same (λ b. count_by (test b) (k ∷ ks)) (λ b. bit (test b k) + count_by (test b) ks) bs (λ b. count_by-cons (test b) k ks) in
    let added : sum_by (λ b. bit (test b k) + count_by (test b) ks) bs ≡ sum_by (λ b. bit (test b k)) bs + sum_by (λ b. count_by (test b) ks) bs =
    sum_by-add (λ b. bit (test b k)) (λ b. count_by (test b) ks) bs in
    let first : sum_by (λ b. bit (test b k)) bs ≤ 1 = one k in
    omega (arith, sum_of_counts test bs ks one, split, added, first)

-- a number is in a range at most once
pub count_in_range_past : (c a n : ℕ) → c < a → count_by (λ b. eqb c b) (range_with_len a n) ≡ 0
count_in_range_past c a zero l = refl
count_in_range_past c a (suc n) l =
    let no : eqb c a ≡ false = ne_eqb c a (λ e. omega arith) in
    let more : count_by (λ b. eqb c b) (range_with_len (a + 1) n) ≡ 0 = count_in_range_past c (a + 1) n (omega arith) in
    count_by-cons (λ b. eqb c b) a (range_with_len (a + 1) n) ∙ rw (no, more)

pub count_in_range : (c a n : ℕ) → count_by (λ b. eqb c b) (range_with_len a n) ≤ 1
count_in_range c a zero = omega arith
count_in_range c a (suc n) = elim (cases_eq c a) [
  | inl same ↦
      let more : count_by (λ b. eqb c b) (range_with_len (a + 1) n) ≡ 0 = count_in_range_past c (a + 1) n (omega arith) in
      omega (arith, count_by-cons (λ b. eqb c b) a (range_with_len (a + 1) n), bit-le (eqb c a), more)
  | inr other ↦
      let not : eqb c a ≡ false = ne_eqb c a other in
      let none : bit (eqb c a) ≡ 0 = ap bit not in
      omega (arith, count_by-cons (λ b. eqb c b) a (range_with_len (a + 1) n), none, count_in_range c (a + 1) n)
]

-- and just once where it is in it
pub count_in_range_is : (c a n : ℕ) → a ≤ c → c < a + n → count_by (λ b. eqb c b) (range_with_len a n) ≡ 1
count_in_range_is c a zero low high = absurd (omega arith)
count_in_range_is c a (suc n) low high = elim (cases_eq c a) [
  | inl same ↦
      let more : count_by (λ b. eqb c b) (range_with_len (a + 1) n) ≡ 0 = count_in_range_past c (a + 1) n (omega arith) in
      let one : bit (eqb c a) ≡ 1 = ap bit (eq-eqb c a same) in
      omega (arith, count_by-cons (λ b. eqb c b) a (range_with_len (a + 1) n), one, more)
  | inr other ↦
      let none : bit (eqb c a) ≡ 0 = ap bit (ne_eqb c a other) in
      omega (arith, count_by-cons (λ b. eqb c b) a (range_with_len (a + 1) n), none, count_in_range_is c (a + 1) n (omega arith) (omega arith))
]

-- and not at all where it is past it
pub count_in_range_over : (c a n : ℕ) → a + n ≤ c → count_by (λ b. eqb c b) (range_with_len a n) ≡ 0
count_in_range_over c a zero over = refl
count_in_range_over c a (suc n) over =
    let no : eqb c a ≡ false = ne_eqb c a (λ e. omega arith) in
    let more : count_by (λ b. eqb c b) (range_with_len (a + 1) n) ≡ 0 = count_in_range_over c (a + 1) n (omega arith) in
    count_by-cons (λ b. eqb c b) a (range_with_len (a + 1) n) ∙ rw (no, more)

pub count_by-map : {X Y : Type 0} (p : Y → Bool) (f : X → Y) (xs : List X) → count_by p (map f xs) ≡ count_by (λ x. p (f x)) xs
count_by-map p f [] = refl
count_by-map p f (x ∷ xs) = omega (arith, count_by-map p f xs, count_by-cons p (f x) (map f xs), count_by-cons (λ y. p (f y)) x xs)

pub count_by_none : {X : Type 0} (p : X → Bool) (xs : List X) → ((x : X) → p x ≡ false) → count_by p xs ≡ 0
count_by_none p [] never = refl
count_by_none p (x ∷ xs) never = let none : bit (p x) ≡ 0 = ap bit (never x) in omega (arith, count_by_none p xs never, count_by-cons p x xs, none)

-- what a pigeonhole finds
pub record Finds (closed : ℕ → Bool) (size : ℕ → ℕ) (most a n : ℕ) : Type 0 where
  pub place : ℕ
  pub from : a ≤ place
  pub below : place < a + n
  pub is_closed : closed place ≡ true
  pub is_small : size place ≤ most

found_or_more : (closed : ℕ → Bool) (size : ℕ → ℕ) (most a n : ℕ) → Finds closed size most a n ⊎ ((most + 1) * count_by closed (range_with_len a n) ≤ sum_by size (range_with_len a n))
found_or_more closed size most a zero = inr (omega arith)
found_or_more closed size most a (suc n) = elim (found_or_more closed size most (a + 1) n) [
  | inl found ↦ inl (record { place = found.place; from = omega (arith, found.from); below = omega (arith, found.below); is_closed = found.is_closed; is_small = found.is_small })
  | inr more ↦ elim (cases_Bool (closed a)) [
    | inl is_so ↦ elim (cases_Bool (leb (size a) most)) [
      | inl small ↦ inl (record { place = a; from = omega arith; below = omega arith; is_closed = is_so; is_small = leb-true (size a) most small })
      | inr large ↦ inr (
          let one : bit (closed a) ≡ 1 = ap bit is_so in
          let big : most < size a = leb-false (size a) most large in
          let count : count_by closed (range_with_len a (suc n)) ≡ 1 + count_by closed (range_with_len (a + 1) n) = count_by-cons closed a (range_with_len (a + 1) n) ∙ ap (λ x. x + count_by closed (range_with_len (a + 1) n)) one in
          let sum : sum_by size (range_with_len a (suc n)) ≡ size a + sum_by size (range_with_len (a + 1) n) = sum_by-cons size a (range_with_len (a + 1) n) in
          rw (count, sum) (omega (arith, more, big)))
    ]
    | inr is_not ↦ inr (
        let none : bit (closed a) ≡ 0 = ap bit is_not in
        let count : count_by closed (range_with_len a (suc n)) ≡ 0 + count_by closed (range_with_len (a + 1) n) = count_by-cons closed a (range_with_len (a + 1) n) ∙ ap (λ x. x + count_by closed (range_with_len (a + 1) n)) none in
        let sum : sum_by size (range_with_len a (suc n)) ≡ size a + sum_by size (range_with_len (a + 1) n) = sum_by-cons size a (range_with_len (a + 1) n) in
        rw (count, sum) (omega (arith, more)))
  ]
]

-- more than `total / (most + 1)` closed places, and together at most `total`: one closed place has at most `most`
pub pigeonhole : (closed : ℕ → Bool) (size : ℕ → ℕ) (most n total : ℕ) → sum_by size (range_with_len 0 n) ≤ total → total / (most + 1) < count_by closed (range_with_len 0 n) → Finds closed size most 0 n
pigeonhole closed size most n total within many = elim (found_or_more closed size most 0 n) [
  | inl found ↦ found
  | inr more ↦
      let up : total < (most + 1) * (total / (most + 1) + 1) = lt-mul-div-succ total (omega arith) in
      let grows : (most + 1) * (total / (most + 1) + 1) ≤ (most + 1) * count_by closed (range_with_len 0 n) = mul-le-mul_left (most + 1) (omega arith) in
      absurd (omega (arith, up, grows, more))
]

-- each key passes the test of a block: all blocks together count at least the keys
pub sum_of_counts_all : {B K : Type 0} (test : B → K → Bool) (bs : List B) (ks : List K) → AllByRecursion (λ k. 1 ≤ count_by (λ b. test b k) bs) ks → length ks ≤ sum_by (λ b. count_by (test b) ks) bs
sum_of_counts_all test bs [] all = omega arith
sum_of_counts_all test bs (k ∷ ks) all =
    let split : sum_by (λ b. count_by (test b) (k ∷ ks)) bs ≡ sum_by (λ b. bit (test b k) + count_by (test b) ks) bs =
    sum_by-same (λ b. count_by (test b) (k ∷ ks)) (λ b. bit (test b k) + count_by (test b) ks) bs (λ b. count_by-cons (test b) k ks) in
    let added : sum_by (λ b. bit (test b k) + count_by (test b) ks) bs ≡ sum_by (λ b. bit (test b k)) bs + sum_by (λ b. count_by (test b) ks) bs =
    sum_by-add (λ b. bit (test b k)) (λ b. count_by (test b) ks) bs in
    let first : 1 ≤ sum_by (λ b. bit (test b k)) bs = all.0 in
    omega (arith, sum_of_counts_all test bs ks all.1, split, added, first)

-- the first place of more than so many
pub record Exceeds (size : ℕ → ℕ) (most a n : ℕ) : Type 0 where
  pub place : ℕ
  pub from : a ≤ place
  pub below : place < a + n
  pub is_large : most < size place
  pub before : (p : ℕ) → a ≤ p → p < place → size p ≤ most

exceeds_or_within : (size : ℕ → ℕ) (most a n : ℕ) → Exceeds size most a n ⊎ (sum_by size (range_with_len a n) ≤ most * n)
exceeds_or_within size most a zero = inr (omega arith)
exceeds_or_within size most a (suc n) = elim (cases_Bool (leb (size a) most)) [
  | inr large ↦ inl (record { place = a; from = omega arith; below = omega arith; is_large = leb-false (size a) most large; before = λ p low high. absurd (omega (arith, low, high)) })
  | inl small ↦
      let here : size a ≤ most = leb-true (size a) most small in
      elim (exceeds_or_within size most (a + 1) n) [
        | inl found ↦ inl (record {
          place = found.place;
          from = omega (arith, found.from);
          below = omega (arith, found.below);
          is_large = found.is_large;
          before = λ p low high. elim (cases_eq p a) [
            | inl same ↦ subst (λ x. size x ≤ most) (sym same) here
            | inr other ↦ found.before p (omega (arith, low, other)) high
          ];
        })
        | inr within ↦ inr (omega (arith, sum_by-cons size a (range_with_len (a + 1) n), mul-suc most n, here, within))
      ]
]

-- together they are more than so many each: one is
pub some_exceeds : (size : ℕ → ℕ) (most n : ℕ) → most * n < sum_by size (range_with_len 0 n) → Exceeds size most 0 n
some_exceeds size most n many = elim (exceeds_or_within size most 0 n) [ inl found ↦ found | inr within ↦ absurd (omega (arith, many, within)) ]
