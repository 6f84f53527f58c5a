-- Words in a page.
use Rattle.std.proofs.Common.{◌≡◌, ◌≢◌, eqb, Option, Some, None, ℕ, zero, suc, [], ◌∷◌, ◌+◌, ◌-◌, ◌*◌, ◌^◌, ◌<◌, ◌≤◌, List, length, get_or, refl}
use Rattle.std.proofs.Common.{sym, ap, ◌∙◌, arith, ◌⊎◌, inl, inr, add-zero}
use Rattle.std.specs.Int.{w32, to_le_bytes}
use Rattle.std.proofs.lemmas.Nat.{from_le_bytes-to_le_bytes_4}
use Rattle.std.proofs.lemmas.List.{places}
use Rattle.std.proofs.lemmas.Bool.{cases_order, cases_eq, eq-eqb, ne_eqb, cond-true, cond-false}
use borrow.Rule.Slice.PartMut.{put_mid}
use Rattle.page_layout.specs.Word.{IsRow, no_row, row_of_word, word_of_row, word_at}

-- ---- four bytes more in front

get_or-shift : (a b c d : ℕ) (bytes : List ℕ) (j m : ℕ) → m ≡ suc (suc (suc (suc j))) → get_or (a ∷ b ∷ c ∷ d ∷ bytes) m 0 ≡ get_or bytes j 0
get_or-shift a b c d bytes j m e = rw e

pub word_at-shift : (a b c d : ℕ) (bytes : List ℕ) (i : ℕ) → word_at (a ∷ b ∷ c ∷ d ∷ bytes) (4 * suc i) ≡ word_at bytes (4 * i)
word_at-shift a b c d bytes i =
    let e0 = get_or-shift a b c d bytes (4 * i) (4 * suc i) (omega arith) in
    let e1 = get_or-shift a b c d bytes (4 * i + 1) (4 * suc i + 1) (omega arith) in
    let e2 = get_or-shift a b c d bytes (4 * i + 2) (4 * suc i + 2) (omega arith) in
    let e3 = get_or-shift a b c d bytes (4 * i + 3) (4 * suc i + 3) (omega arith) in
    rw (e0, e1, e2, e3)

-- the first four of bytes are bytes
pub four_below : (a b c d : ℕ) (bytes : List ℕ) → ((k : ℕ) → get_or (a ∷ b ∷ c ∷ d ∷ bytes) k 0 < 256) → (k : ℕ) → get_or (a ∷ b ∷ c ∷ d ∷ []) k 0 < 256
four_below a b c d bytes h zero = h 0
four_below a b c d bytes h (suc zero) = h 1
four_below a b c d bytes h (suc (suc zero)) = h 2
four_below a b c d bytes h (suc (suc (suc zero))) = h 3
four_below a b c d bytes h (suc (suc (suc (suc k)))) = omega arith

-- ---- a word that is put in place of another

-- a byte outside the four that w replaces
get_or-put_mid_outside : (page w : List ℕ) (a j : ℕ) → length w ≡ 4 → a + 4 ≤ length page → (j < a) ⊎ (a + 4 ≤ j) → get_or (put_mid a (a + 4 - a) page w) j 0 ≡ get_or page j 0
get_or-put_mid_outside page w a j lw lp (inl below) = grind (arith, places)
get_or-put_mid_outside page w a j lw lp (inr above) = grind (arith, places)

-- a byte of w
get_or-put_mid_inside : (page w : List ℕ) (a m : ℕ) → length w ≡ 4 → a + 4 ≤ length page → m < 4 → get_or (put_mid a (a + 4 - a) page w) (a + m) 0 ≡ get_or w m 0
get_or-put_mid_inside page w a m lw lp l = grind (arith, places)

-- bytes of two words
apart : (i k m j : ℕ) → j ≡ 4 * k + m → m < 4 → k ≢ i → (j < 4 * i) ⊎ (4 * i + 4 ≤ j)
apart i k m j e l ne = elim (cases_order k i) [
  | inl same ↦ absurd (ne same)
  | inr (inl below) ↦ inl (omega arith)
  | inr (inr above) ↦ inr (omega arith)
]

-- another word than the one that w replaces
pub word_at-put_mid : (page w : List ℕ) (i k : ℕ) → length w ≡ 4 → 4 * i + 4 ≤ length page → k ≢ i → word_at (put_mid (4 * i) (4 * i + 4 - 4 * i) page w) (4 * k) ≡ word_at page (4 * k)
word_at-put_mid page w i k lw lp ne =
    let e0 = get_or-put_mid_outside page w (4 * i) (4 * k) lw lp (apart i k 0 (4 * k) (omega arith) (omega arith) ne) in
    let e1 = get_or-put_mid_outside page w (4 * i) (4 * k + 1) lw lp (apart i k 1 (4 * k + 1) refl (omega arith) ne) in
    let e2 = get_or-put_mid_outside page w (4 * i) (4 * k + 2) lw lp (apart i k 2 (4 * k + 2) refl (omega arith) ne) in
    let e3 = get_or-put_mid_outside page w (4 * i) (4 * k + 3) lw lp (apart i k 3 (4 * k + 3) refl (omega arith) ne) in
    rw (e0, e1, e2, e3)

-- the word that was written
pub word_at-put_mid_same : (page : List ℕ) (i n : ℕ) → 4 * i + 4 ≤ length page → n < 2 ^ 32 → word_at (put_mid (4 * i) (4 * i + 4 - 4 * i) page (to_le_bytes w32 n)) (4 * i) ≡ n
word_at-put_mid_same page i n lp fits =
    let w = to_le_bytes w32 n in
    let new = put_mid (4 * i) (4 * i + 4 - 4 * i) page w in
    let e0 : get_or new (4 * i) 0 ≡ get_or w 0 0 = ap (λ j. get_or new j 0) (sym (add-zero (4 * i))) ∙ get_or-put_mid_inside page w (4 * i) 0 refl lp (omega arith) in
    let e1 = get_or-put_mid_inside page w (4 * i) 1 refl lp (omega arith) in
    let e2 = get_or-put_mid_inside page w (4 * i) 2 refl lp (omega arith) in
    let e3 = get_or-put_mid_inside page w (4 * i) 3 refl lp (omega arith) in
    rw (e0, e1, e2, e3) (from_le_bytes-to_le_bytes_4 n fits)

-- ---- rows and words

pub row_again : (row : Option ℕ) → IsRow row → row_of_word (word_of_row row) ≡ row
row_again None fits = refl
row_again (Some r) fits = cond-false (eqb r no_row) None (Some r) (ne_eqb r no_row (λ same. omega (arith, fits r refl)))

pub word_again : (word : ℕ) → word_of_row (row_of_word word) ≡ word
word_again word = elim (cases_eq word no_row) [
  | inl same ↦ ap word_of_row (cond-true (eqb word no_row) None (Some word) (eq-eqb word no_row same)) ∙ sym same
  | inr other ↦ ap word_of_row (cond-false (eqb word no_row) None (Some word) (ne_eqb word no_row other))
]
