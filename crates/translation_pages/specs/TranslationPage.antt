-- The layout of a translation page: for each entry the word of its row, little-endian, one after another.
use Rattle.std.specs.Prelude.{◌≡◌, ℕ, zero, suc, ◌+◌, ◌*◌, List, [], ◌∷◌, ◌++◌, Option, All, length}
use Rattle.std.specs.Int.{w32, to_le_bytes}
pub use Rattle.page_layout.specs.Word.{no_row, row_of_word, word_of_row, IsRow, word_at}

-- entry i of a page: the row for which the four bytes from 4 * i on stand, or none where they are FFFFFFFFh
unfoldable pub entry_at : List ℕ → ℕ → Option ℕ
entry_at page i = row_of_word (word_at page (4 * i))

-- the entries from i on, n of them
abbrev pub entries_from : List ℕ → ℕ → ℕ → List (Option ℕ)
entries_from page i zero = []
entries_from page i (suc n) = entry_at page i ∷ entries_from page (i + 1) n

-- the first n entries of a page
abbrev pub entries_of : ℕ → List ℕ → List (Option ℕ)
entries_of n page = entries_from page 0 n

-- the bytes of a page with these entries: entry i of them is the i-th
unfoldable pub translation_bytes : List (Option ℕ) → List ℕ
translation_bytes [] = []
translation_bytes (e ∷ es) = to_le_bytes w32 (word_of_row e) ++ translation_bytes es

-- as many entries are spelled in one way only, and no spelling of them begins another
abbrev pub OneSpellingLaw : Type 0
OneSpellingLaw = (es fs : List (Option ℕ)) (xs ys : List ℕ) → All IsRow es → All IsRow fs → length es ≡ length fs → translation_bytes es ++ xs ≡ translation_bytes fs ++ ys → (es ≡ fs) × (xs ≡ ys)
