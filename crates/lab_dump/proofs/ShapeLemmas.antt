-- The sizes of areas and blocks are the powers of two within the limits.
use Rattle.std.proofs.Common.{◌≡◌, ◌≤◌, ◌<◌, ◌+◌, ◌*◌, ◌/◌, ◌%◌, ℕ, zero, suc, List, [], ◌∷◌, All, Bool, true, arith, refl, sym, ap, ◌∙◌, subst, inl, inr}
use Rattle.std.specs.Prelude.{IsTrue, ◌==◌, ◌&&◌, ◌||◌, nat_le, not}
use Rattle.std.specs.Int.{is_power_of_two}
use lib.Count.{ones}
use Rattle.std.specs.List.{Contains, list_any}
use Rattle.std.proofs.lemmas.Bool.{agree_below_at, and_from, le-leb, eqb-true, eq-eqb, or_cases}
use Rattle.std.proofs.lemmas.Nat.{ones_cat, zero_from_ones, div-add-mod', mod_below}
use Rattle.std.proofs.lemmas.List.Elements.{All-cons}
use Rattle.page_layout.specs.Limits.{IsDataSize, IsPageCount}
use Rattle.lab_dump.specs.Shape.{data_sizes, page_counts}

-- ---- each of the numbers is one

data_size : (n : ℕ) → IsTrue (is_power_of_two n) → 64 ≤ n → n ≤ 4096 → IsDataSize n
data_size n power least most = record { power = power; least = least; most = most }

page_count : (n : ℕ) → IsTrue (is_power_of_two n) → 4 ≤ n → n ≤ 256 → IsPageCount n
page_count n power least most = record { power = power; least = least; most = most }

pub all_sizes : All IsDataSize data_sizes
unfolding ones data_sizes
all_sizes =
    let l6 : List ℕ = 4096 ∷ [] in
    let l5 : List ℕ = 2048 ∷ l6 in
    let l4 : List ℕ = 1024 ∷ l5 in
    let l3 : List ℕ = 512 ∷ l4 in
    let l2 : List ℕ = 256 ∷ l3 in
    let l1 : List ℕ = 128 ∷ l2 in
    All-cons IsDataSize 64 l1 (data_size 64 refl (omega arith) (omega arith)) (All-cons IsDataSize 128 l2 (data_size 128 refl (omega arith) (omega arith))
    (All-cons IsDataSize 256 l3 (data_size 256 refl (omega arith) (omega arith)) (All-cons IsDataSize 512 l4 (data_size 512 refl (omega arith) (omega arith))
    (All-cons IsDataSize 1024 l5 (data_size 1024 refl (omega arith) (omega arith)) (All-cons IsDataSize 2048 l6 (data_size 2048 refl (omega arith) (omega arith))
    (All-cons IsDataSize 4096 [] (data_size 4096 refl (omega arith) (omega arith)) (λ k d l. absurd (omega arith))))))))

pub all_counts : All IsPageCount page_counts
unfolding ones page_counts
all_counts =
    let l6 : List ℕ = 256 ∷ [] in
    let l5 : List ℕ = 128 ∷ l6 in
    let l4 : List ℕ = 64 ∷ l5 in
    let l3 : List ℕ = 32 ∷ l4 in
    let l2 : List ℕ = 16 ∷ l3 in
    let l1 : List ℕ = 8 ∷ l2 in
    All-cons IsPageCount 4 l1 (page_count 4 refl (omega arith) (omega arith)) (All-cons IsPageCount 8 l2 (page_count 8 refl (omega arith) (omega arith))
    (All-cons IsPageCount 16 l3 (page_count 16 refl (omega arith) (omega arith)) (All-cons IsPageCount 32 l4 (page_count 32 refl (omega arith) (omega arith))
    (All-cons IsPageCount 64 l5 (page_count 64 refl (omega arith) (omega arith)) (All-cons IsPageCount 128 l6 (page_count 128 refl (omega arith) (omega arith))
    (All-cons IsPageCount 256 [] (page_count 256 refl (omega arith) (omega arith)) (λ k d l. absurd (omega arith))))))))

-- ---- and each such number is among them

pub contains_head : {X : Type 0} (x : X) (xs : List X) → Contains (x ∷ xs) x
contains_head x xs = (0, omega arith, refl)

pub contains_more : {X : Type 0} (x y : X) (xs : List X) → Contains xs y → Contains (x ∷ xs) y
contains_more x y xs h = (suc h.0, omega (arith, h.1), h.2)

contains_any : (n : ℕ) (xs : List ℕ) → list_any (λ m. n == m) xs ≡ true → Contains xs n
contains_any n [] h = absurd (let h = h in cc)
contains_any n (x ∷ xs) h = elim (or_cases (n == x) (list_any (λ m. n == m) xs) h) [
  | inl e ↦ subst (λ m. Contains (m ∷ xs) n) (eqb-true n x e) (contains_head n xs)
  | inr e ↦ contains_more x n xs (contains_any n xs e)
]

-- a number of 64s that is a power of two
is_size : ℕ → Bool
is_size q = not (is_power_of_two q) || list_any (λ m. q * 64 == m) data_sizes

size_there : (q : ℕ) → q < 65 → is_size q ≡ true
unfolding ones data_sizes is_size
size_there q l = agree_below_at is_size (λ m. true) 65 q refl l

size_of_power : (q : ℕ) → q < 65 → is_power_of_two q ≡ true → Contains data_sizes (q * 64)
unfolding is_size
size_of_power q l power = elim (or_cases (not (is_power_of_two q)) (list_any (λ m. q * 64 == m) data_sizes) (size_there q l)) [
  | inl e ↦ absurd (let not_so : not true ≡ true = ap not (sym power) ∙ e in cc)
  | inr e ↦ contains_any (q * 64) data_sizes e
]

-- a power of two of at least 64 is whole 64s
halves : (d q r : ℕ) → d ≡ q * 64 + r → r < 64 → 64 ≤ d → d ≤ 4096 → ones d ≡ 1 → Contains data_sizes d
halves d q r e few least most one = by_ones (ones q) (ones r) refl refl
  where
    both : ones q + ones r ≡ 1
    both = sym (ones_cat 6 q r few) ∙ (ap ones (sym e) ∙ one)

    by_ones : (a b : ℕ) → ones q ≡ a → ones r ≡ b → Contains data_sizes d
    by_ones zero b x y = absurd (let none : q ≡ 0 = zero_from_ones q x in omega arith)
    by_ones (suc zero) b x y =
        let none : r ≡ 0 = zero_from_ones r (omega (arith, both, x)) in
        let whole : q * 64 ≡ d = omega arith in
        subst (Contains data_sizes) whole (size_of_power q (omega arith) (eq-eqb (ones q) 1 x))
    by_ones (suc (suc a)) b x y = absurd (omega (arith, both, x))

pub size_among : (d : ℕ) → IsDataSize d → Contains data_sizes d
size_among d h = halves d (d / 64) (d % 64) (sym (div-add-mod' d 64)) (mod_below d 64 (omega arith)) h.least h.most (eqb-true (ones d) 1 h.power)

is_count : ℕ → Bool
is_count n = not (is_power_of_two n && nat_le 4 n) || list_any (λ m. n == m) page_counts

count_there : (n : ℕ) → n < 257 → is_count n ≡ true
unfolding ones page_counts is_count
count_there n l = agree_below_at is_count (λ m. true) 257 n refl l

pub count_among : (n : ℕ) → IsPageCount n → Contains page_counts n
unfolding is_count
count_among n h = elim (or_cases (not (is_power_of_two n && nat_le 4 n)) (list_any (λ m. n == m) page_counts) (count_there n (omega (arith, h.most)))) [
  | inl e ↦ absurd (let not_so : not true ≡ true = ap not (sym (and_from (is_power_of_two n) (nat_le 4 n) h.power (le-leb 4 n h.least))) ∙ e in cc)
  | inr e ↦ contains_any n page_counts e
]
