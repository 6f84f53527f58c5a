-- A table page word by word, and as its bytes.
use Rattle.std.proofs.Common.{◌≡◌, true, false, inl, inr, ℕ, ◌+◌, ◌-◌, ◌*◌, ◌%◌, ◌^◌, ◌<◌, ◌≤◌, List, length, map, get_or, All, Option, Some, None}
use Rattle.std.proofs.Common.{slice_get, refl, sym, ap, ◌∙◌, subst, arith}
use Rattle.std.specs.List.{range_with_len}
use Rattle.std.proofs.lemmas.List.FromFn.{length-map-range_with_len, get_or-map-range_with_len}
use Rattle.std.proofs.lemmas.Option.{slice_get-get_or, slice_get_past, get_or_from_slice_get, slice_get_within}
use Rattle.std.proofs.lemmas.List.{get_or_past}
use Rattle.std.proofs.lemmas.List.Elements.{All-map}
use Rattle.std.proofs.lemmas.Bool.{cases_lt, lt-ltb, le-ltb}
use Rattle.page_layout.specs.Word.{word_at}
use Rattle.bad_blocks.specs.declared.class.Class.{Class}
use Rattle.bad_blocks.specs.declared.class.Class.TheVariants.{Good, Factory, Grown}
use Rattle.bad_blocks.specs.declared.table.TableRow.{TableRow}
use Rattle.bad_blocks.specs.Table.{HasFittingWear, no_table_row, unworn}
use Rattle.bad_blocks.specs.declared.table.page.TableFault.{TableFault}
use Rattle.bad_blocks.specs.TablePage.{code_of_class, word_of, word_or_padding, table_word, table_bytes, IsTablePage, IsFirstWrongWord, is_right}
use Rattle.bad_blocks.proofs.WordLemmas.{length-words, words_spelled, words_spell}

code_small : (class : Class) → code_of_class class < 3
code_small Good = omega arith
code_small Factory = omega arith
code_small Grown = omega arith

word_small : (row : TableRow) → HasFittingWear row → word_of row < 2 ^ 32 - 1
word_small row counted = omega (arith, code_small row.class, counted.most)

row_or_padding_small : (row : Option TableRow) → ((r : TableRow) → row ≡ Some r → HasFittingWear r) → word_or_padding row < 2 ^ 32
row_or_padding_small None counted = omega arith
row_or_padding_small (Some r) counted = omega (arith, word_small r (counted r refl))

row_counted : (rows : List TableRow) (b : ℕ) (r : TableRow) → All HasFittingWear rows → slice_get rows b ≡ Some r → HasFittingWear r
row_counted rows b r counted is =
    let e : get_or rows b r ≡ r = get_or_from_slice_get rows b r r is in
    let P : TableRow → Type 0 = λ x. HasFittingWear x in
    subst P e (counted b r (slice_get_within rows b r is))

table_word_small : (rows : List TableRow) (b : ℕ) → All HasFittingWear rows → table_word rows b < 2 ^ 32
table_word_small rows b counted = row_or_padding_small (slice_get rows b) (λ r is. row_counted rows b r counted is)

-- the counts of blocks that were never erased
pub unworn_counted : (classes : List Class) → All HasFittingWear (unworn classes)
unworn_counted classes = All-map HasFittingWear never_erased classes (λ k d l. record { most = omega arith })
  where
    never_erased : Class → TableRow
    never_erased class = record { class = class; wear = 0 }

abbrev words_of : ℕ → List TableRow → ℕ → List ℕ
words_of entries rows u = map (table_word rows) (range_with_len (u * entries) entries)

length-words_of : (entries : ℕ) (rows : List TableRow) (u : ℕ) → length (words_of entries rows u) ≡ entries
length-words_of entries rows u = length-map-range_with_len (table_word rows) (u * entries) entries

get_or-words_of : (entries : ℕ) (rows : List TableRow) (u i : ℕ) → i < entries → get_or (words_of entries rows u) i 0 ≡ table_word rows (u * entries + i)
get_or-words_of entries rows u i l = get_or-map-range_with_len (table_word rows) (u * entries) entries i (u * entries + i) 0 l refl

words_of_small : (entries : ℕ) (rows : List TableRow) (u : ℕ) → All HasFittingWear rows → (k : ℕ) → get_or (words_of entries rows u) k 0 < 2 ^ 32
words_of_small entries rows u counted k = elim (cases_lt k entries) [
  | inl l ↦ rw (get_or-words_of entries rows u k l) (table_word_small rows (u * entries + k) counted)
  | inr ge ↦
      let past : length (words_of entries rows u) ≤ k = rw (length-words_of entries rows u) ge in
      rw (get_or_past (words_of entries rows u) k 0 past) (omega arith)
]

-- ---- the laws

pub length-table_bytes : (entries u : ℕ) (rows : List TableRow) → length (table_bytes entries rows u) ≡ 4 * entries
unfolding table_bytes
length-table_bytes entries u rows = length-words (words_of entries rows u) ∙ ap (λ n. 4 * n) (length-words_of entries rows u)

-- the bytes are the page, word by word
pub table_bytes_page : (entries : ℕ) (rows : List TableRow) (u : ℕ) → All HasFittingWear rows → IsTablePage entries rows u (table_bytes entries rows u)
unfolding table_bytes
table_bytes_page entries rows u counted = record {
  whole = length-table_bytes entries u rows;
  words = λ i l.
      let within : i < length (words_of entries rows u) = rw (length-words_of entries rows u) l in
      words_spelled (words_of entries rows u) i (words_of_small entries rows u counted) within ∙ get_or-words_of entries rows u i l;
}

-- the page, word by word, is the bytes
pub page_bytes : (entries : ℕ) (rows : List TableRow) (u : ℕ) (bytes : List ℕ) → ((i : ℕ) → get_or bytes i 0 < 256) → IsTablePage entries rows u bytes → bytes ≡ table_bytes entries rows u
unfolding table_bytes
page_bytes entries rows u bytes fits page =
    let n : length (words_of entries rows u) ≡ entries = length-words_of entries rows u in
    words_spell (words_of entries rows u) bytes (page.whole ∙ ap (λ k. 4 * k) (sym n)) fits
    (λ i l. let within : i < entries = rw n at l in page.words i within ∙ sym (get_or-words_of entries rows u i within))

-- a row is known by its word
word_of_same : (a b : TableRow) → word_of a ≡ word_of b → a ≡ b
word_of_same a b e =
    let la = code_small a.class in
    let lb = code_small b.class in
    let wear : a.wear ≡ b.wear = omega arith in
    let code : code_of_class a.class ≡ code_of_class b.class = omega arith in
    let class : a.class ≡ b.class = same_class a.class b.class code in
    let of_class : Class → TableRow = λ c. record { class = c; wear = a.wear } in
    let of_wear : ℕ → TableRow = λ w. record { class = b.class; wear = w } in
    ap of_class class ∙ ap of_wear wear
  where
    same_class : (x y : Class) → code_of_class x ≡ code_of_class y → x ≡ y
    same_class Good Good h = refl
    same_class Factory Factory h = refl
    same_class Grown Grown h = refl
    same_class Good Factory h = absurd (omega arith)
    same_class Good Grown h = absurd (omega arith)
    same_class Factory Good h = absurd (omega arith)
    same_class Factory Grown h = absurd (omega arith)
    same_class Grown Good h = absurd (omega arith)
    same_class Grown Factory h = absurd (omega arith)

pub table_rows_same : (entries u : ℕ) (rows others : List TableRow) → All HasFittingWear rows → All HasFittingWear others → length rows ≡ length others → table_bytes entries rows u ≡ table_bytes entries others u
    → (b : ℕ) → u * entries ≤ b → b < u * entries + entries → slice_get rows b ≡ slice_get others b
table_rows_same entries u rows others ca co n same b low high =
    let i : ℕ = b - u * entries in
    let at : u * entries + i ≡ b = omega arith in
    let l : i < entries = omega arith in
    let left = (table_bytes_page entries rows u ca).words i l in
    let right = (table_bytes_page entries others u co).words i l in
    let words : table_word rows (u * entries + i) ≡ table_word others (u * entries + i) = sym left ∙ (ap (λ (x : List ℕ). word_at x (4 * i)) same ∙ right) in
    let words_b : table_word rows b ≡ table_word others b = rw at at words in
    elim (cases_lt b (length rows)) [
      | inl within ↦
          let e : slice_get rows b ≡ Some (get_or rows b no_table_row) = slice_get-get_or rows b no_table_row within in
          let f : slice_get others b ≡ Some (get_or others b no_table_row) = slice_get-get_or others b no_table_row (omega arith) in
          let w : word_of (get_or rows b no_table_row) ≡ word_of (get_or others b no_table_row) = sym (ap word_or_padding e) ∙ (words_b ∙ ap word_or_padding f) in
          e ∙ (ap Some (word_of_same (get_or rows b no_table_row) (get_or others b no_table_row) w) ∙ sym f)
      | inr past ↦ slice_get_past rows b past ∙ sym (slice_get_past others b (omega arith))
    ]

-- ---- a page of a table is right

pub right_word : (rows : List TableRow) (b : ℕ) → is_right (length rows) b (table_word rows b) ≡ true
right_word rows b = elim (cases_lt b (length rows)) [
  | inl within ↦
      let row : TableRow = get_or rows b no_table_row in
      let e : slice_get rows b ≡ Some row = slice_get-get_or rows b no_table_row within in
      let code : word_of row % 256 < 3 = omega (arith, code_small row.class) in
      rw (e, lt-ltb b (length rows) within) (lt-ltb (word_of row % 256) 3 code)
  | inr past ↦ rw (slice_get_past rows b past, le-ltb b (length rows) past) refl
]

pub page_not_wrong : (entries blocks u : ℕ) (rows : List TableRow) (bytes : List ℕ) (fault : TableFault) → length rows ≡ blocks → All HasFittingWear rows → bytes ≡ table_bytes entries rows u → IsFirstWrongWord entries blocks u bytes fault → ⊥
page_not_wrong entries blocks u rows bytes fault n counted same wrong =
    let word : word_at bytes (4 * wrong.place) ≡ table_word rows (u * entries + wrong.place) =
    ap (λ (x : List ℕ). word_at x (4 * wrong.place)) same ∙ (table_bytes_page entries rows u counted).words wrong.place wrong.within in
    let right : is_right blocks (u * entries + wrong.place) (word_at bytes (4 * wrong.place)) ≡ true =
    rw (word, ← n) (right_word rows (u * entries + wrong.place)) in
    let bad : true ≡ false = sym right ∙ wrong.wrong in
    absurd (cc bad)
