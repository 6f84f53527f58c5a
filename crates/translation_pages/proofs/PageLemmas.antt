-- Laws of the layout of a translation page.
use Rattle.std.proofs.Common.{◌≡◌, ◌≢◌, ℕ, zero, suc, ◌+◌, ◌*◌, ◌^◌, ◌<◌, ◌≤◌, ◌∙◌, true, eqb, List, [], ◌∷◌, ◌++◌, length, get_or, set, All, Option}
use Rattle.std.proofs.Common.{Some, None, slice_get, refl, sym, ap, inl, inr, arith, length-set}
use Rattle.std.specs.Int.{w32, to_le_bytes, from_le_bytes}
use Rattle.std.proofs.lemmas.Nat.{le_bytes_4, from_le_bytes-to_le_bytes_4}
use Rattle.std.proofs.lemmas.List.{append_cancel_left}
use Rattle.std.proofs.lemmas.Bool.{cases_eq, eqb-true, and_parts}
use Rattle.page_layout.proofs.WordLemmas.{row_again, word_again, word_at-shift, four_below}
use Rattle.page_layout.specs.Sound.{is_filled}
use Rattle.translation_pages.specs.TranslationPage.{row_of_word, word_of_row, entry_at, entries_from, entries_of, translation_bytes, IsRow, OneSpellingLaw}

word_fits : (row : Option ℕ) → IsRow row → word_of_row row < 2 ^ 32
word_fits None h = omega arith
word_fits (Some r) h = let l = h r refl in omega arith

-- ---- one entry more in front

entry_at-shift : (a b c d : ℕ) (page : List ℕ) (i : ℕ) → entry_at (a ∷ b ∷ c ∷ d ∷ page) (suc i) ≡ entry_at page i
unfolding entry_at
entry_at-shift a b c d page i = ap row_of_word (word_at-shift a b c d page i)

entry_at-first : (row : Option ℕ) (page : List ℕ) → IsRow row → entry_at (to_le_bytes w32 (word_of_row row) ++ page) 0 ≡ row
unfolding entry_at
entry_at-first row page h = ap row_of_word (from_le_bytes-to_le_bytes_4 (word_of_row row) (word_fits row h)) ∙ row_again row h

entries_from-shift : (a b c d : ℕ) (page : List ℕ) (i n : ℕ) → entries_from (a ∷ b ∷ c ∷ d ∷ page) (suc i) n ≡ entries_from page i n
entries_from-shift a b c d page i zero = refl
entries_from-shift a b c d page i (suc n) =
    let e : suc i + 1 ≡ suc (i + 1) = omega arith in
    rw (e, entry_at-shift a b c d page i, entries_from-shift a b c d page (i + 1) n)

All-tail : {X : Type 0} (P : X → Type 0) (x : X) (xs : List X) → All P (x ∷ xs) → All P xs
All-tail P x xs h k d l = h (suc k) d (omega arith)

-- ---- what spells a list
pub length-translation_bytes : (es : List (Option ℕ)) → length (translation_bytes es) ≡ 4 * length es
unfolding translation_bytes
length-translation_bytes [] = refl
length-translation_bytes (e ∷ es) = let ih = length-translation_bytes es in omega arith

-- its entries are the list's
pub entry_at-translation_bytes : (es : List (Option ℕ)) (i : ℕ) → All IsRow es → i < length es → slice_get es i ≡ Some (entry_at (translation_bytes es) i)
unfolding translation_bytes
entry_at-translation_bytes [] i h l = absurd (omega arith)
entry_at-translation_bytes (e ∷ es) zero h l = ap Some (sym (entry_at-first e (translation_bytes es) (h 0 None (omega arith))))
entry_at-translation_bytes (e ∷ es) (suc i) h l = entry_at-translation_bytes es i (All-tail IsRow e es h) (omega arith) ∙ ap Some (sym (entry_at-shift _ _ _ _ (translation_bytes es) i))

-- with anything behind it
entries_of-append : (es : List (Option ℕ)) (xs : List ℕ) → All IsRow es → entries_of (length es) (translation_bytes es ++ xs) ≡ es
unfolding translation_bytes
entries_of-append [] xs h = refl
entries_of-append (e ∷ es) xs h =
    let rest : entries_from (translation_bytes (e ∷ es) ++ xs) 1 (length es) ≡ es = entries_from-shift _ _ _ _ (translation_bytes es ++ xs) 0 (length es) ∙ entries_of-append es xs (All-tail IsRow e es h) in
    ap (λ ys. entry_at (translation_bytes (e ∷ es) ++ xs) 0 ∷ ys) rest ∙ ap (λ y. y ∷ es) (entry_at-first e (translation_bytes es ++ xs) (h 0 None (omega arith)))

pub one_spelling : OneSpellingLaw
one_spelling es fs xs ys h k l e =
    let same : es ≡ fs = sym (entries_of-append es xs h) ∙ ap (λ n. entries_of n (translation_bytes es ++ xs)) l ∙ ap (entries_of (length fs)) e ∙ entries_of-append fs ys k in
    let behind : translation_bytes fs ++ xs ≡ translation_bytes fs ++ ys = ap (λ gs. translation_bytes gs ++ xs) (sym same) ∙ e in
    (same, append_cancel_left (translation_bytes fs) xs ys behind)

-- a list with one entry changed
entry_at-set_same : (es : List (Option ℕ)) (i : ℕ) (row : Option ℕ) → IsRow row → i < length es → entry_at (translation_bytes (set es i row)) i ≡ row
unfolding translation_bytes
entry_at-set_same [] i row h l = absurd (omega arith)
entry_at-set_same (e ∷ es) zero row h l = entry_at-first row (translation_bytes es) h
entry_at-set_same (e ∷ es) (suc i) row h l = entry_at-shift _ _ _ _ (translation_bytes (set es i row)) i ∙ entry_at-set_same es i row h (omega arith)

entry_at-set_other : (es : List (Option ℕ)) (i k : ℕ) (row : Option ℕ) → k ≢ i → entry_at (translation_bytes (set es i row)) k ≡ entry_at (translation_bytes es) k
unfolding translation_bytes entry_at
entry_at-set_other [] i k row ne = refl
entry_at-set_other (e ∷ es) zero zero row ne = absurd (ne refl)
entry_at-set_other (e ∷ es) zero (suc k) row ne = entry_at-shift _ _ _ _ (translation_bytes es) k ∙ sym (entry_at-shift _ _ _ _ (translation_bytes es) k)
entry_at-set_other (e ∷ es) (suc i) zero row ne = refl
entry_at-set_other (e ∷ es) (suc i) (suc k) row ne = entry_at-shift _ _ _ _ (translation_bytes (set es i row)) k ∙ entry_at-set_other es i k row (λ same. ne (ap suc same)) ∙ sym (entry_at-shift _ _ _ _ (translation_bytes es) k)

-- ---- what every page spells

first_word : (a b c d : ℕ) (page : List ℕ) → ((k : ℕ) → get_or (a ∷ b ∷ c ∷ d ∷ page) k 0 < 256) → to_le_bytes w32 (word_of_row (entry_at (a ∷ b ∷ c ∷ d ∷ page) 0)) ≡ a ∷ b ∷ c ∷ d ∷ []
unfolding entry_at
first_word a b c d page h =
    let four = a ∷ b ∷ c ∷ d ∷ [] in
    ap (to_le_bytes w32) (word_again (from_le_bytes w32 four)) ∙ le_bytes_4 four _ refl (four_below a b c d page h) refl

-- each page spells its entries
pub translation_bytes-entries_of : (n : ℕ) (page : List ℕ) → length page ≡ 4 * n → ((k : ℕ) → get_or page k 0 < 256) → page ≡ translation_bytes (entries_of n page)
unfolding translation_bytes
translation_bytes-entries_of zero [] l h = refl
translation_bytes-entries_of zero (a ∷ page) l h = absurd (omega arith)
translation_bytes-entries_of (suc n) (a ∷ b ∷ c ∷ d ∷ page) l h =
    let all = a ∷ b ∷ c ∷ d ∷ page in
    let ih = translation_bytes-entries_of n page (omega arith) (λ k. h (suc (suc (suc (suc k))))) in
    ap (λ (xs : List ℕ). a ∷ b ∷ c ∷ d ∷ xs) (ih ∙ ap translation_bytes (sym (entries_from-shift a b c d page 0 n))) ∙ ap (λ (w : List ℕ). w ++ translation_bytes (entries_from all 1 n)) (sym (first_word a b c d page h))
translation_bytes-entries_of (suc n) page l h = absurd (omega arith)

-- ---- a page that was patched
-- bytes, whatever the rows
translation_bytes-fits : (es : List (Option ℕ)) (k : ℕ) → get_or (translation_bytes es) k 0 < 256
unfolding translation_bytes
translation_bytes-fits [] k = omega arith
translation_bytes-fits (e ∷ es) zero = omega arith
translation_bytes-fits (e ∷ es) (suc zero) = omega arith
translation_bytes-fits (e ∷ es) (suc (suc zero)) = omega arith
translation_bytes-fits (e ∷ es) (suc (suc (suc zero))) = omega arith
translation_bytes-fits (e ∷ es) (suc (suc (suc (suc k)))) = translation_bytes-fits es k

entries_from-same : (old new : List ℕ) (i n : ℕ) → ((k : ℕ) → entry_at new k ≡ entry_at old k) → entries_from new i n ≡ entries_from old i n
entries_from-same old new i zero same = refl
entries_from-same old new i (suc n) same = rw (same i, entries_from-same old new (i + 1) n same)

-- pages with the same entries are the same
same_entries : (n : ℕ) (old new : List ℕ) → length old ≡ 4 * n → length new ≡ 4 * n → ((k : ℕ) → get_or old k 0 < 256) → ((k : ℕ) → get_or new k 0 < 256) → ((k : ℕ) → entry_at new k ≡ entry_at old k) → new ≡ old
same_entries n old new l m f g same =
    translation_bytes-entries_of n new m g ∙ ap translation_bytes (entries_from-same old new 0 n same) ∙ sym (translation_bytes-entries_of n old l f)

pub translation_bytes-patched : (es : List (Option ℕ)) (old new : List ℕ) (i : ℕ) (row : Option ℕ) → IsRow row → old ≡ translation_bytes es
    → length new ≡ length old → ((k : ℕ) → get_or new k 0 < 256) → 4 * i + 4 ≤ length old → entry_at new i ≡ row
    → ((k : ℕ) → k ≢ i → entry_at new k ≡ entry_at old k) → new ≡ translation_bytes (set es i row)
translation_bytes-patched es old new i row h e l fits within here others =
    let count : length old ≡ 4 * length es = ap length e ∙ length-translation_bytes es in
    let inside : i < length es = omega arith in
    same_entries (length es) (translation_bytes (set es i row)) new
    (length-translation_bytes (set es i row) ∙ ap (λ n. 4 * n) (length-set es i row))
    (l ∙ count)
    (translation_bytes-fits (set es i row))
    fits
    (λ k. elim (cases_eq k i) [
      | inl same ↦ rw same (here ∙ sym (entry_at-set_same es i row h inside))
      | inr other ↦ others k other ∙ ap (λ p. entry_at p k) e ∙ sym (entry_at-set_other es i k row other)
    ])

-- ---- an erased page
filled_byte : (page : List ℕ) (j : ℕ) → is_filled page ≡ true → j < length page → get_or page j 0 ≡ 255
unfolding is_filled
filled_byte [] j e l = absurd (omega arith)
filled_byte (b ∷ page) zero e l = eqb-true b 255 (and_parts (eqb b 255) (is_filled page) e).0
filled_byte (b ∷ page) (suc j) e l = filled_byte page j (and_parts (eqb b 255) (is_filled page) e).1 (omega arith)

pub entry_at-filled : (page : List ℕ) (i : ℕ) → is_filled page ≡ true → 4 * i + 4 ≤ length page → entry_at page i ≡ None
unfolding entry_at
entry_at-filled page i e l =
    let a = filled_byte page (4 * i) e (omega arith) in
    let b = filled_byte page (4 * i + 1) e (omega arith) in
    let c = filled_byte page (4 * i + 2) e (omega arith) in
    let d = filled_byte page (4 * i + 3) e (omega arith) in
    rw (a, b, c, d)
