-- Pages with bits turned, and the bits in which pages differ.
use Rattle.std.proofs.Common.{◌≡◌, ◌≢◌, ◌⊎◌, inl, inr, ℕ, zero, suc, ◌+◌, ◌*◌, ◌/◌, ◌%◌, ◌^◌, ◌<◌, ◌≤◌, Bool, true, false, cond, eqb, List, [], ◌∷◌, length, get_or, refl, sym, ap, ◌∙◌, subst, arith, length-append}
use Rattle.std.specs.Prelude.{All, not, ◌||◌, bit_xor, count_by}
use Rattle.std.specs.List.{filter, list_any, range_with_len, Contains}
use Rattle.std.specs.Int.{bit_at}
use Rattle.std.proofs.lemmas.Bool.{cases_eq, or_cases, eqb-true, eq-eqb, ne_eqb, eqb-false, not-true, not-false, true≢false}
use Rattle.std.proofs.lemmas.Grind.{same_number_lists}
use Rattle.std.proofs.lemmas.List.Elements.{All-set, All-get_or, Contains-append_left, Contains-append_right, Contains-append_cases}
use Rattle.std.proofs.lemmas.List.Sums.{sum_by-cons}
use Rattle.std.proofs.lemmas.Nat.{xor_lt, pow_below}
use Rattle.std.proofs.lemmas.Nat.Bits.{bit_at-lt, same_from_bits_below}
use Rattle.page_layout.specs.Page.{Page}
use Rattle.page_layout.specs.Raw.{bytes_of_page}
use Rattle.lab_dump.specs.PageBytes.{bit_in, page_from_bytes, bit_count, page_bit}
use Rattle.lab_dump.proofs.PageLemmas.{page_again}
use Rattle.lab_mend.specs.Bits.{turned_bytes, with_bit_turned}
use Rattle.lab_mend.specs.Trial.{differ_in, differing_bits, with_turned, turned_count, HasBytes}
use Rattle.lab_mend.proofs.BitLemmas.{turned_bit, kept_bit, bytes_turned, body_turned, spare_turned, count_turned}

-- ---- numbers that pass a test

first_in : {X : Type 0} (x : X) (xs : List X) → Contains (x ∷ xs) x
first_in x xs = (0, omega arith, refl)

later_in : {X : Type 0} (x y : X) (xs : List X) → Contains xs y → Contains (x ∷ xs) y
later_in x y xs h = (suc h.0, (let l = h.1 in omega arith), h.2)

pub either_in : {X : Type 0} (x y : X) (xs : List X) → Contains (x ∷ xs) y → (x ≡ y) ⊎ Contains xs y
either_in x y xs h = by h.0 h.1 h.2
  where
    by : (k : ℕ) → k < length (x ∷ xs) → get_or (x ∷ xs) k y ≡ y → (x ≡ y) ⊎ Contains xs y
    by zero l e = inl e
    by (suc k) l e = inr (k, omega arith, e)

-- the number passes, and stands in this range
pub record Passes (f : ℕ → Bool) (from size k : ℕ) : Type 0 where
  pub low : from ≤ k
  pub high : k < from + size
  pub passes : f k ≡ true

passes_later : (f : ℕ → Bool) (from size k : ℕ) → Passes f (from + 1) size k → Passes f from (suc size) k
passes_later f from size k h = record { low = (let l = h.low in omega arith); high = (let l = h.high in omega arith); passes = h.passes }

passes_step : (f : ℕ → Bool) (from size k : ℕ) → (Contains (filter f (range_with_len (from + 1) size)) k → Passes f (from + 1) size k) → (b : Bool) → f from ≡ b
    → Contains (cond b (from ∷ filter f (range_with_len (from + 1) size)) (filter f (range_with_len (from + 1) size))) k → Passes f from (suc size) k
passes_step f from size k rest true is at = elim (either_in from k (filter f (range_with_len (from + 1) size)) at) [
  | inl same ↦ subst (Passes f from (suc size)) same (record { low = omega arith; high = omega arith; passes = is })
  | inr later ↦ passes_later f from size k (rest later)
]
passes_step f from size k rest false is at = passes_later f from size k (rest at)

pub passes_from : (f : ℕ → Bool) (from size k : ℕ) → Contains (filter f (range_with_len from size)) k → Passes f from size k
passes_from f from zero k h = absurd (let l = h.1 in omega arith)
passes_from f from (suc size) k h = passes_step f from size k (λ at. passes_from f (from + 1) size k at) (f from) refl h

kept_step : (f : ℕ → Bool) (from k : ℕ) (rest : List ℕ) → f k ≡ true → (b : Bool) → f from ≡ b → (from ≢ k → Contains rest k) → Contains (cond b (from ∷ rest) rest) k
kept_step f from k rest passes true is later = elim (cases_eq from k) [ inl same ↦ subst (Contains (from ∷ rest)) same (first_in from rest) | inr ne ↦ later_in from k rest (later ne) ]
kept_step f from k rest passes false is later = later (λ same. true≢false (sym passes ∙ (ap f (sym same) ∙ is)))

pub passes_in : (f : ℕ → Bool) (from size k : ℕ) → Passes f from size k → Contains (filter f (range_with_len from size)) k
passes_in f from zero k h = absurd (let l = h.low in let m = h.high in omega arith)
passes_in f from (suc size) k h = kept_step f from k (filter f (range_with_len (from + 1) size)) h.passes (f from) refl (λ ne.
    passes_in f (from + 1) size k (record { low = (let l = h.low in omega arith); high = (let l = h.high in omega arith); passes = h.passes }))

-- numbers below this one, each once
abbrev pub AreBits : ℕ → List ℕ → Type 0
AreBits n [] = Unit {0}
AreBits n (k ∷ ks) = (k < n) × (Contains ks k → ⊥) × AreBits n ks

bits_step : (f : ℕ → Bool) (n from size : ℕ) → from < n → AreBits n (filter f (range_with_len (from + 1) size)) → (b : Bool)
    → AreBits n (cond b (from ∷ filter f (range_with_len (from + 1) size)) (filter f (range_with_len (from + 1) size)))
bits_step f n from size l more true = (l, λ at. (let p = passes_from f (from + 1) size from at in let low = p.low in omega arith), more)
bits_step f n from size l more false = more

pub passing_bits : (f : ℕ → Bool) (n from size : ℕ) → from + size ≤ n → AreBits n (filter f (range_with_len from size))
passing_bits f n from zero le = tt
passing_bits f n from (suc size) le = bits_step f n from size (omega arith) (passing_bits f n (from + 1) size (omega arith)) (f from)

-- ---- counts of numbers in a range

count_cons : (f : ℕ → Bool) (x : ℕ) (xs : List ℕ) → count_by f (x ∷ xs) ≡ cond (f x) 1 0 + count_by f xs
count_cons f x xs = sum_by-cons (λ y. cond (f y) 1 0) x xs

abbrev one_of : Bool → ℕ
one_of b = cond b 1 0

count_same : (f h : ℕ → Bool) (from size : ℕ) → ((j : ℕ) → from ≤ j → f j ≡ h j) → count_by f (range_with_len from size) ≡ count_by h (range_with_len from size)
count_same f h from zero same = refl
count_same f h from (suc size) same =
    count_cons f from (range_with_len (from + 1) size)
    ∙ (ap (λ b. one_of b + count_by f (range_with_len (from + 1) size)) (same from (omega arith))
    ∙ (ap (λ n. one_of (h from) + n) (count_same f h (from + 1) size (λ j l. same j (omega arith))) ∙ sym (count_cons h from (range_with_len (from + 1) size))))

-- one more where the tests differ at one number
count_flip : (f h : ℕ → Bool) (k from size : ℕ) → from ≤ k → k < from + size → f k ≡ true → h k ≡ false → ((j : ℕ) → j ≢ k → f j ≡ h j)
    → count_by f (range_with_len from size) ≡ count_by h (range_with_len from size) + 1
count_flip f h k from zero low high is none others = absurd (omega arith)
count_flip f h k from (suc size) low high is none others = elim (cases_eq from k) [
  | inl same ↦
      let here : f from ≡ true = ap f same ∙ is in
      let there : h from ≡ false = ap h same ∙ none in
      let rest : count_by f (range_with_len (from + 1) size) ≡ count_by h (range_with_len (from + 1) size) = count_same f h (from + 1) size (λ j l. others j (λ e. (omega arith))) in
      count_cons f from (range_with_len (from + 1) size)
      ∙ (ap (λ b. one_of b + count_by f (range_with_len (from + 1) size)) here
      ∙ (ap (λ n. 1 + n) rest ∙ (omega (arith) ∙ ap (λ n. n + 1) (ap (λ b. one_of b + count_by h (range_with_len (from + 1) size)) (sym there) ∙ sym (count_cons h from (range_with_len (from + 1) size))))))
  | inr ne ↦
      count_cons f from (range_with_len (from + 1) size)
      ∙ (ap (λ b. one_of b + count_by f (range_with_len (from + 1) size)) (others from ne)
      ∙ (ap (λ n. one_of (h from) + n) (count_flip f h k (from + 1) size (omega arith) (omega arith) is none others)
      ∙ (omega arith ∙ ap (λ n. n + 1) (sym (count_cons h from (range_with_len (from + 1) size))))))
]

count_none : (f : ℕ → Bool) (from size : ℕ) → ((j : ℕ) → j < from + size → f j ≡ false) → count_by f (range_with_len from size) ≡ 0
count_none f from zero none = refl
count_none f from (suc size) none =
    count_cons f from (range_with_len (from + 1) size)
    ∙ (ap (λ b. one_of b + count_by f (range_with_len (from + 1) size)) (none from (omega arith)) ∙ (omega arith ∙ count_none f (from + 1) size (λ j l. none j (omega arith))))

-- ---- bits of two pages

pub bits_same : (p q : Page) (k : ℕ) → page_bit q k ≡ page_bit p k → differ_in p q k ≡ false
bits_same p q k e = ap not (eq-eqb (page_bit q k) (page_bit p k) e)

pub bits_other : (p q : Page) (k : ℕ) → page_bit q k ≢ page_bit p k → differ_in p q k ≡ true
bits_other p q k ne = ap not (ne_eqb (page_bit q k) (page_bit p k) ne)

pub same_bits : (p q : Page) (k : ℕ) → differ_in p q k ≡ false → page_bit q k ≡ page_bit p k
same_bits p q k e = eqb-true (page_bit q k) (page_bit p k) (not-false (eqb (page_bit q k) (page_bit p k)) e)

pub other_bits : (p q : Page) (k : ℕ) → differ_in p q k ≡ true → page_bit q k ≢ page_bit p k
other_bits p q k e = eqb-false (page_bit q k) (page_bit p k) (not-true (eqb (page_bit q k) (page_bit p k)) e)

bit_low : (p : Page) (k : ℕ) → page_bit p k < 2
bit_low p k = bit_at-lt (get_or (bytes_of_page p) (k / 8) 0) (k % 8)

turned_here : (p : Page) (k : ℕ) → k < bit_count p → page_bit (with_bit_turned p k) k ≡ (page_bit p k + 1) % 2
turned_here p k l = ap (λ b. bit_in b k) (bytes_turned p k) ∙ turned_bit (bytes_of_page p) k l

turned_there : (p : Page) (k j : ℕ) → k < bit_count p → j ≢ k → page_bit (with_bit_turned p k) j ≡ page_bit p j
turned_there p k j l ne = ap (λ b. bit_in b j) (bytes_turned p k) ∙ kept_bit (bytes_of_page p) k j l ne

one_apart : (a b : ℕ) → a < 2 → b < 2 → a ≢ b → a ≡ (b + 1) % 2
one_apart a b l m ne = omega arith

apart_again : (a b : ℕ) → b < 2 → a ≡ (b + 1) % 2 → a ≢ b
apart_again a b l e same = omega arith

-- one bit fewer is apart once a bit that is apart is turned
count_turn : (p q : Page) (k : ℕ) → k < bit_count p → page_bit q k ≢ page_bit p k → turned_count p q ≡ turned_count (with_bit_turned p k) q + 1
count_turn p q k l ne =
    count_flip (differ_in p q) (differ_in (with_bit_turned p k) q) k 0 (bit_count p) (omega arith) (omega arith) (bits_other p q k ne)
    (bits_same (with_bit_turned p k) q k (one_apart (page_bit q k) (page_bit p k) (bit_low q k) (bit_low p k) ne ∙ sym (turned_here p k l)))
    (λ j other. ap (λ b. not (eqb (page_bit q j) b)) (sym (turned_there p k j l other)))
    ∙ ap (λ n. count_by (differ_in (with_bit_turned p k) q) (range_with_len 0 n) + 1) (sym (count_turned p k))

count_itself : (p : Page) → turned_count p p ≡ 0
count_itself p = count_none (differ_in p p) 0 (bit_count p) (λ j l. bits_same p p j refl)

-- ---- the pages with so many bits turned

-- the page differs in so many bits, all of these
pub record IsTurned (p : Page) (bits : List ℕ) (n : ℕ) (q : Page) : Type 0 where
  pub body_size : length q.body ≡ length p.body
  pub spare_size : length q.spare ≡ length p.spare
  pub agrees : (k : ℕ) → (Contains bits k → ⊥) → page_bit q k ≡ page_bit p k
  pub count : turned_count p q ≡ n

turned_none : (p q : Page) (bits : List ℕ) → p ≡ q → IsTurned p bits 0 q
turned_none p q bits same = subst (IsTurned p bits 0) same (record { body_size = refl; spare_size = refl; agrees = λ k out. refl; count = count_itself p })

turned_one : (p q : Page) (k : ℕ) (ks : List ℕ) (n : ℕ) → k < bit_count p → (Contains ks k → ⊥) → IsTurned (with_bit_turned p k) ks n q → IsTurned p (k ∷ ks) (suc n) q
turned_one p q k ks n l out h = record {
  body_size = h.body_size ∙ body_turned p k;
  spare_size = h.spare_size ∙ spare_turned p k;
  agrees = λ j away. h.agrees j (λ at. away (later_in k j ks at)) ∙ turned_there p k j l (λ e. away (subst (Contains (k ∷ ks)) (sym e) (first_in k ks)));
  count = count_turn p q k l (apart_again (page_bit q k) (page_bit p k) (bit_low p k) (h.agrees k out ∙ turned_here p k l)) ∙ (ap (λ m. m + 1) h.count ∙ omega arith);
}

turned_more : (p q : Page) (k : ℕ) (ks : List ℕ) (n : ℕ) → IsTurned p ks n q → IsTurned p (k ∷ ks) n q
turned_more p q k ks n h = record { body_size = h.body_size; spare_size = h.spare_size; agrees = λ j away. h.agrees j (λ at. away (later_in k j ks at)); count = h.count }

pub alone : (p q : Page) → Contains (p ∷ []) q → p ≡ q
alone p q at = elim (either_in p q [] at) [ inl same ↦ same | inr none ↦ absurd (let l = none.1 in omega arith) ]

bits_turned : (p : Page) (k : ℕ) (ks : List ℕ) → AreBits (bit_count p) ks → AreBits (bit_count (with_bit_turned p k)) ks
bits_turned p k ks h = subst (λ n. AreBits n ks) (sym (count_turned p k)) h

pub turned_in : (bits : List ℕ) (p q : Page) (n : ℕ) → AreBits (bit_count p) bits → Contains (with_turned p bits n) q → IsTurned p bits n q
unfolding with_turned
turned_in bits p q zero are at = turned_none p q bits (alone p q at)
turned_in [] p q (suc n) are at = absurd (let l = at.1 in omega arith)
turned_in (k ∷ ks) p q (suc n) are at = elim (Contains-append_cases (with_turned (with_bit_turned p k) ks n) (with_turned p ks (suc n)) q at) [
  | inl with ↦ turned_one p q k ks n are.0 are.1 (turned_in ks (with_bit_turned p k) q n (bits_turned p k ks are.2) with)
  | inr without ↦ turned_more p q k ks (suc n) (turned_in ks p q (suc n) are.2 without)
]

-- ---- all of them

bytes_below : (p : Page) (j : ℕ) → HasBytes p → j < length (bytes_of_page p) → get_or (bytes_of_page p) j 0 < 256
bytes_below p j h l = All-get_or (λ b. b < 256) (bytes_of_page p) j 0 l h

-- pages with the same bits are one page
same_by_bits : (p q : Page) → length q.body ≡ length p.body → length q.spare ≡ length p.spare → HasBytes p → HasBytes q → ((k : ℕ) → k < bit_count p → page_bit q k ≡ page_bit p k) → p ≡ q
same_by_bits p q body spare left right same =
    let whole : length (bytes_of_page p) ≡ length (bytes_of_page q) = omega (arith, length-append p.body p.spare, length-append q.body q.spare) in
    let each : (j : ℕ) → j < length (bytes_of_page p) → get_or (bytes_of_page p) j 0 ≡ get_or (bytes_of_page q) j 0 =
    λ j l. same_from_bits_below 8 (get_or (bytes_of_page p) j 0) (get_or (bytes_of_page q) j 0) (bytes_below p j left l) (bytes_below q j right (omega arith)) (λ i low.
    let place : (8 * j + i) / 8 ≡ j = omega arith in
    let bit : (8 * j + i) % 8 ≡ i = omega arith in
    sym (subst (λ m. bit_at (get_or (bytes_of_page q) m 0) i ≡ bit_at (get_or (bytes_of_page p) m 0) i) place
    (subst (λ m. bit_at (get_or (bytes_of_page q) ((8 * j + i) / 8) 0) m ≡ bit_at (get_or (bytes_of_page p) ((8 * j + i) / 8) 0) m) bit (same (8 * j + i) (omega arith))))) in
    let bytes : bytes_of_page p ≡ bytes_of_page q = same_number_lists (bytes_of_page p) (bytes_of_page q) whole each in
    sym (page_again p) ∙ (ap (λ n. page_from_bytes n (bytes_of_page p)) (sym body) ∙ (ap (page_from_bytes (length q.body)) bytes ∙ page_again q))

power_low : (n : ℕ) → n < 8 → 2 ^ n < 2 ^ 8
power_low n l = pow_below n 8 l

bytes_stay : (p : Page) (k : ℕ) → k < bit_count p → HasBytes p → HasBytes (with_bit_turned p k)
unfolding turned_bytes
bytes_stay p k l h =
    let b : ℕ = get_or (bytes_of_page p) (k / 8) 0 in
    let low : b < 256 = bytes_below p (k / 8) h (omega arith) in
    subst (All (λ x. x < 256)) (sym (bytes_turned p k)) (All-set (λ x. x < 256) (bytes_of_page p) (k / 8) (bit_xor b (2 ^ (k % 8))) (xor_lt 8 b (2 ^ (k % 8)) low (power_low (k % 8) (omega arith))) h)

no_count : (p q : Page) → ((k : ℕ) → k < bit_count p → page_bit q k ≡ page_bit p k) → turned_count p q ≡ 0
no_count p q same = count_none (differ_in p q) 0 (bit_count p) (λ j l. bits_same p q j (same j (omega arith)))

-- the page is one of those with more bits that may be turned
wider : (p q : Page) (k : ℕ) (ks : List ℕ) (n : ℕ) → Contains (with_turned p ks n) q → Contains (with_turned p (k ∷ ks) n) q
unfolding with_turned
wider p q k ks zero at = by ks at
  where
    by : (xs : List ℕ) → Contains (with_turned p xs zero) q → Contains (p ∷ []) q
    by [] h = h
    by (x ∷ xs) h = h
wider p q k ks (suc n) at = Contains-append_right (with_turned (with_bit_turned p k) ks n) (with_turned p ks (suc n)) q at

wider_turned : (p q : Page) (k : ℕ) (ks : List ℕ) (n : ℕ) → Contains (with_turned (with_bit_turned p k) ks n) q → Contains (with_turned p (k ∷ ks) (suc n)) q
unfolding with_turned
wider_turned p q k ks n at = Contains-append_left (with_turned (with_bit_turned p k) ks n) (with_turned p ks (suc n)) q at

itself_in : (p q : Page) (n : ℕ) → p ≡ q → n ≡ 0 → Contains (with_turned p [] n) q
unfolding with_turned
itself_in p q n same none = subst (λ m. Contains (with_turned p [] m) q) (sym none) (subst (λ x. Contains (p ∷ []) x) same (first_in p []))

-- a page that differs in none but these bits is one of those
pub in_turned : (bits : List ℕ) (p q : Page) (n : ℕ) → AreBits (bit_count p) bits → length q.body ≡ length p.body → length q.spare ≡ length p.spare → HasBytes p → HasBytes q
    → ((k : ℕ) → k < bit_count p → (Contains bits k → ⊥) → page_bit q k ≡ page_bit p k) → turned_count p q ≡ n → Contains (with_turned p bits n) q
in_turned [] p q n are body spare left right agrees count =
    let same : (k : ℕ) → k < bit_count p → page_bit q k ≡ page_bit p k = λ k l. agrees k l (λ at. (let m = at.1 in omega arith)) in
    itself_in p q n (same_by_bits p q body spare left right same) (sym count ∙ no_count p q same)
in_turned (k ∷ ks) p q n are body spare left right agrees count = elim (cases_eq (page_bit q k) (page_bit p k)) [
  | inl here ↦ wider p q k ks n (in_turned ks p q n are.2 body spare left right (λ j l away. elim (cases_eq j k) [
    | inl e ↦ subst (λ i. page_bit q i ≡ page_bit p i) (sym e) here
    | inr ne ↦ agrees j l (λ at. elim (either_in k j ks at) [ inl e ↦ ne (sym e) | inr later ↦ away later ])
  ]) count)
  | inr ne ↦
      let t : Page = with_bit_turned p k in
      let turns : turned_count p q ≡ turned_count t q + 1 = count_turn p q k are.0 ne in
      let here : page_bit q k ≡ page_bit t k = one_apart (page_bit q k) (page_bit p k) (bit_low q k) (bit_low p k) ne ∙ sym (turned_here p k are.0) in
      let rest : Contains (with_turned t ks (turned_count t q)) q =
      in_turned ks t q (turned_count t q) (bits_turned p k ks are.2) (body ∙ sym (body_turned p k)) (spare ∙ sym (spare_turned p k)) (bytes_stay p k are.0 left) right (λ j l away. elim (cases_eq j k) [
        | inl e ↦ subst (λ i. page_bit q i ≡ page_bit t i) (sym e) here
        | inr other ↦ agrees j (subst (λ m. j < m) (count_turned p k) l) (λ at. elim (either_in k j ks at) [ inl e ↦ other (sym e) | inr later ↦ away later ]) ∙ sym (turned_there p k j are.0 other)
      ]) refl in
      subst (λ m. Contains (with_turned p (k ∷ ks) m) q) (omega arith) (wider_turned p q k ks (turned_count t q) rest)
]

-- no more bits are turned than there are
pub few_turned : (bits : List ℕ) (p q : Page) (n : ℕ) → Contains (with_turned p bits n) q → n ≤ length bits
unfolding with_turned
few_turned bits p q zero at = omega arith
few_turned [] p q (suc n) at = absurd (let l = at.1 in omega arith)
few_turned (k ∷ ks) p q (suc n) at = elim (Contains-append_cases (with_turned (with_bit_turned p k) ks n) (with_turned p ks (suc n)) q at) [
  | inl with ↦ (let l = few_turned ks (with_bit_turned p k) q n with in omega arith)
  | inr without ↦ (let l = few_turned ks p q (suc n) without in omega arith)
]

pub turned_zero : (p : Page) (bits : List ℕ) → with_turned p bits 0 ≡ p ∷ []
unfolding with_turned
turned_zero p [] = refl
turned_zero p (k ∷ ks) = refl

-- ---- the bits in which pages differ

-- one of the pages differs in the bit
pub record HasApart (p : Page) (ps : List Page) (k : ℕ) : Type 0 where
  pub its : Page
  pub in_list : Contains ps its
  pub apart : differ_in p its k ≡ true

apart_some : (p : Page) (ps : List Page) (k : ℕ) → list_any (λ q. differ_in p q k) ps ≡ true → HasApart p ps k
apart_some p [] k e = absurd (true≢false (sym e))
apart_some p (x ∷ xs) k e = elim (or_cases (differ_in p x k) (list_any (λ q. differ_in p q k) xs) e) [
  | inl here ↦ record { its = x; in_list = first_in x xs; apart = here }
  | inr later ↦ let h = apart_some p xs k later in record { its = h.its; in_list = later_in x h.its xs h.in_list; apart = h.apart }
]

or_parts : (a b : Bool) → (a || b) ≡ false → (a ≡ false) × (b ≡ false)
or_parts true b e = absurd (true≢false e)
or_parts false b e = (refl, e)

apart_none : (p r : Page) (ps : List Page) (k : ℕ) → list_any (λ q. differ_in p q k) ps ≡ false → Contains ps r → differ_in p r k ≡ false
apart_none p r [] k e at = absurd (let l = at.1 in omega arith)
apart_none p r (x ∷ xs) k e at =
    let parts = or_parts (differ_in p x k) (list_any (λ q. differ_in p q k) xs) e in
    elim (either_in x r xs at) [ inl same ↦ ap (λ y. differ_in p y k) (sym same) ∙ parts.0 | inr later ↦ apart_none p r xs k parts.1 later ]

pub bits_once : (p : Page) (ps : List Page) → AreBits (bit_count p) (differing_bits p ps)
unfolding differing_bits
bits_once p ps = passing_bits (λ k. list_any (λ q. differ_in p q k) ps) (bit_count p) 0 (bit_count p) (omega arith)

pub bit_apart : (p : Page) (ps : List Page) (k : ℕ) → Contains (differing_bits p ps) k → HasApart p ps k
unfolding differing_bits
bit_apart p ps k at =
    let h = passes_from (λ j. list_any (λ q. differ_in p q j) ps) 0 (bit_count p) k at in
    apart_some p ps k h.passes

pub bit_together : (p r : Page) (ps : List Page) (k : ℕ) → k < bit_count p → (Contains (differing_bits p ps) k → ⊥) → Contains ps r → page_bit r k ≡ page_bit p k
unfolding differing_bits
bit_together p r ps k l away at = by (list_any (λ q. differ_in p q k) ps) refl
  where
    by : (b : Bool) → list_any (λ q. differ_in p q k) ps ≡ b → page_bit r k ≡ page_bit p k
    by true is = absurd (away (passes_in (λ j. list_any (λ q. differ_in p q j) ps) 0 (bit_count p) k (record { low = omega arith; high = omega arith; passes = is })))
    by false is = same_bits p r k (apart_none p r ps k is at)
