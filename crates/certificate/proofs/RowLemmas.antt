-- Rows are spelled as the words that they are kept in, and words are read as they are spelled.
use Rattle.std.proofs.Common.{◌≡◌, ℕ, zero, suc, ◌*◌, ◌^◌, ◌<◌, ◌≤◌, length, get_or, take, drop, false, eqb, List, [], ◌∷◌, ◌++◌, map, Option, Some}
use Rattle.std.proofs.Common.{None, refl, sym, ap, ◌∙◌, arith}
use Rattle.std.specs.List.{flat_map, AllByRecursion}
use Rattle.std.specs.Int.{w32, from_le_bytes}
use Rattle.std.proofs.lemmas.Nat.{le_bytes_4, from_le_bytes-to_le_bytes_4}
use Rattle.certificate.specs.Reading.{words_of}
use Rattle.std.proofs.lemmas.Bool.Decides.{nat_tests}
use Rattle.std.proofs.lemmas.List.Concat.{flat_map-cons}
use Rattle.page_layout.proofs.WordLemmas.{word_again, four_below}
use Rattle.page_layout.specs.Word.{no_row, row_of_word, word_of_row}
use Rattle.certificate.specs.Spelling.{word, row, IsRowOf}

abbrev pub IsBytes : List ℕ → Type 0
IsBytes bytes = (k : ℕ) → get_or bytes k 0 < 256

pub rows_spelled : (words : List ℕ) → flat_map row (map row_of_word words) ≡ flat_map word words
rows_spelled [] = refl
rows_spelled (w ∷ words) =
    flat_map-cons row (row_of_word w) (map row_of_word words) ∙ (ap (λ (bs : List ℕ). row (row_of_word w) ++ bs) (rows_spelled words) ∙ (ap (λ n. word n ++ flat_map word words) (word_again w) ∙ sym (flat_map-cons word w words)))

-- ---- words both ways

pub words_spell : (n : ℕ) (bytes : List ℕ) → length bytes ≡ 4 * n → IsBytes bytes → flat_map word (words_of bytes) ≡ bytes
unfolding words_of word
words_spell zero [] l h = refl
words_spell zero (a ∷ bytes) l h = absurd (omega arith)
words_spell (suc n) (a ∷ b ∷ c ∷ d ∷ bytes) l h =
    let four = a ∷ b ∷ c ∷ d ∷ [] in
    let rest = words_spell n bytes (omega arith) (λ k. h (suc (suc (suc (suc k))))) in
    let first : word (from_le_bytes w32 four) ≡ four = le_bytes_4 four _ refl (four_below a b c d bytes h) refl in
    flat_map-cons word (from_le_bytes w32 four) (words_of bytes) ∙ (ap (λ (x : List ℕ). x ++ flat_map word (words_of bytes)) first ∙ ap (λ (x : List ℕ). a ∷ b ∷ c ∷ d ∷ x) rest)
words_spell (suc n) bytes l h = absurd (omega arith)

pub length-words_of : (n : ℕ) (bytes : List ℕ) → length bytes ≡ 4 * n → length (words_of bytes) ≡ n
unfolding words_of
length-words_of zero [] l = refl
length-words_of zero (a ∷ bytes) l = absurd (omega arith)
length-words_of (suc n) (a ∷ b ∷ c ∷ d ∷ bytes) l = ap suc (length-words_of n bytes (omega arith))
length-words_of (suc n) bytes l = absurd (omega arith)

-- ---- reading them one by one

pub words_end : (bytes : List ℕ) → length bytes < 4 → words_of bytes ≡ []
unfolding words_of
words_end [] l = refl
words_end (a ∷ []) l = refl
words_end (a ∷ b ∷ []) l = refl
words_end (a ∷ b ∷ c ∷ []) l = refl
words_end (a ∷ b ∷ c ∷ d ∷ bytes) l = absurd (omega arith)

pub words_more : (rest word_bytes after : List ℕ) → 4 ≤ length rest → word_bytes ≡ take 4 rest → after ≡ drop 4 rest → words_of rest ≡ from_le_bytes w32 (get_or word_bytes 0 0 ∷ get_or word_bytes 1 0 ∷ get_or word_bytes 2 0 ∷ get_or word_bytes 3 0 ∷ []) ∷ words_of after
unfolding words_of
words_more (a ∷ b ∷ c ∷ d ∷ rest) w after l e f = rw (e, f) refl
words_more rest w after l e f = absurd (omega arith)

-- ---- rows both ways

row_again : (rows : ℕ) (r : Option ℕ) → rows ≤ no_row → IsRowOf rows r → row_of_word (word_of_row r) ≡ r
row_again rows None most h = refl
row_again rows (Some r) most h = let apart : eqb r no_row ≡ false = grind (arith, nat_tests) in rw apart refl

word_small : (rows : ℕ) (r : Option ℕ) → rows ≤ no_row → IsRowOf rows r → word_of_row r < 2 ^ 32
word_small rows None most h = omega arith
word_small rows (Some r) most h = omega arith

pub rows_again : (rows : ℕ) (rs : List (Option ℕ)) → rows ≤ no_row → AllByRecursion (IsRowOf rows) rs → map row_of_word (words_of (flat_map row rs)) ≡ rs
unfolding words_of word
rows_again rows [] most h = refl
rows_again rows (r ∷ rs) most h =
    ap (λ (bs : List ℕ). map row_of_word (words_of bs)) (flat_map-cons row r rs)
    ∙ (ap (λ (n : ℕ). row_of_word n ∷ map row_of_word (words_of (flat_map row rs))) (from_le_bytes-to_le_bytes_4 (word_of_row r) (word_small rows r most h.0))
    ∙ (ap (λ (o : Option ℕ). o ∷ map row_of_word (words_of (flat_map row rs))) (row_again rows r most h.0)
    ∙ ap (λ (os : List (Option ℕ)). r ∷ os) (rows_again rows rs most h.1)))

pub length-flat_map-row : (rs : List (Option ℕ)) → length (flat_map row rs) ≡ 4 * length rs
unfolding word
length-flat_map-row [] = refl
length-flat_map-row (r ∷ rs) = ap length (flat_map-cons row r rs) ∙ omega (arith, length-flat_map-row rs)

-- ---- what the rows of a certificate are

-- a word among those of which each is a row or none
pub row_at : (rows : ℕ) (words : List ℕ) (i w : ℕ) → AllByRecursion (IsRowOf rows) (map row_of_word words) → i < length words → w ≡ get_or words i w → IsRowOf rows (row_of_word w)
row_at rows [] i w h l e = absurd (omega arith)
row_at rows (x ∷ words) zero w h l e = rw e h.0
row_at rows (x ∷ words) (suc i) w h l e = row_at rows words i w h.1 (omega arith) e
