-- Rows as the words that a certificate keeps.
use Rattle.std.proofs.Common.{◌≡◌, ℕ, zero, suc, ◌+◌, ◌*◌, ◌<◌, ◌≤◌, All, true, false, eqb, cond, List, [], ◌∷◌, ◌++◌, length, length-append, below_more, map, get_or, slice_get}
use Rattle.std.proofs.Common.{Option, Some, None, refl, sym, ap, subst, ◌∙◌, arith}
use Rattle.std.proofs.Math.Nat.{mul-le-mul}
use Rattle.std.proofs.lemmas.Bool.{eqb-true}
use Rattle.std.proofs.lemmas.List.{get_or_read}
use Rattle.std.proofs.lemmas.Option.{get_or_from_slice_get}
use Rattle.page_layout.specs.declared.geometry.Geometry.{Geometry}
use Rattle.page_layout.specs.Geometry.{row_count}
use Rattle.page_layout.specs.Word.{no_row, row_of_word, word_of_row}
use Rattle.certificate.specs.Parts.{IsRowWord}
use Rattle.certificate.specs.Spelling.{IsRowOf}
use Rattle.image_check.specs.declared.newest.Newest.{Newest}
use Rattle.image_check.specs.Newest.{place_in, no_newest}
use Rattle.mount.specs.Shown.{HasWords}

few_rows : (g : Geometry) → row_count g < no_row
few_rows g =
    let most : g.blocks * g.pages ≤ 4096 * 256 = mul-le-mul g.limits.block_count.most g.limits.page_count.most in
    omega arith

-- a row's word is read back
word_read : (rows : ℕ) (o : Option ℕ) → rows < no_row → IsRowOf rows o → row_of_word (word_of_row o) ≡ o
word_read rows None few h = refl
word_read rows (Some row) few h = (elim (eqb row no_row) as (λ b. eqb row no_row ≡ b → cond b None (Some row) ≡ Some row) [
  | true ↦ λ e. absurd (let same = eqb-true row no_row e in omega arith)
  | false ↦ λ e. refl
]) refl

slice_get-map : {X Y : Type 0} (f : X → Y) (xs : List X) (i : ℕ) (x : X) → slice_get xs i ≡ Some x → slice_get (map f xs) i ≡ Some (f x)
slice_get-map f [] i x e = absurd cc
slice_get-map f (y ∷ ys) zero x e = let same : y ≡ x = cc in ap (λ z. Some (f z)) same
slice_get-map f (y ∷ ys) (suc i) x e = slice_get-map f ys i x e

row_below : (g : Geometry) (newest : List Newest) (i : ℕ) → All (λ x. IsRowOf (row_count g) (place_in x)) newest → i < length newest → IsRowOf (row_count g) (place_in (get_or newest i no_newest))
row_below g newest i within l = within i no_newest l

-- the row that a word stands for is that of the key's newest page
pub row_told : (g : Geometry) (newest : List Newest) (first n : ℕ) (words : List ℕ) (i : ℕ) → HasWords newest first n words
    → All (λ x. IsRowOf (row_count g) (place_in x)) newest → first + n ≤ length newest → i < n
    → slice_get (map row_of_word words) i ≡ Some (place_in (get_or newest (first + i) no_newest))
row_told g newest first n words i h within room l =
    let few = few_rows g in
    slice_get-map row_of_word words i _ (h.word i l) ∙ ap Some (word_read (row_count g) (place_in (get_or newest (first + i) no_newest)) few (row_below g newest (first + i) within (omega arith)))

-- each word is that of a row, or of none
pub words_fit : (g : Geometry) (newest : List Newest) (first n : ℕ) (words : List ℕ) → HasWords newest first n words → All (λ x. IsRowOf (row_count g) (place_in x)) newest → first + n ≤ length newest → All (IsRowWord (row_count g)) words
words_fit g newest first n words h within room = λ k d l.
    let size = h.size in
    let few = few_rows g in
    let at = first + k in
    let row = place_in (get_or newest at no_newest) in
    let is : get_or words k d ≡ word_of_row row = get_or_from_slice_get words k (word_of_row row) d (h.word k (omega arith)) in
    let below : IsRowOf (row_count g) row = row_below g newest at within (omega arith) in
    subst (IsRowWord (row_count g)) (sym is) (subst (IsRowOf (row_count g)) (sym (word_read (row_count g) row few below)) below)

get_last : (xs : List ℕ) (y : ℕ) → slice_get (xs ++ (y ∷ [])) (length xs) ≡ Some y
get_last [] y = refl
get_last (x ∷ xs) y = get_last xs y

get_front : (xs : List ℕ) (y i : ℕ) → i < length xs → slice_get (xs ++ (y ∷ [])) i ≡ slice_get xs i
get_front [] y i l = absurd (omega arith)
get_front (x ∷ xs) y zero l = refl
get_front (x ∷ xs) y (suc i) l = get_front xs y i (omega arith)

-- the word of one key more
pub one_word_more : (newest : List Newest) (first n k : ℕ) (words new : List ℕ) (at : Newest) → HasWords newest first n words → k ≡ first + n → k < length newest
    → new ≡ words ++ (word_of_row (place_in at) ∷ []) → at ≡ get_or newest k at → HasWords newest first (n + 1) new
one_word_more newest first n k words new at h here within is its =
    let word = word_of_row (place_in at) in
    let found : at ≡ get_or newest (first + n) no_newest = get_or_read newest k at within its no_newest ∙ ap (λ i. get_or newest i no_newest) here in
    record {
      size = ap length is ∙ (length-append words (word ∷ []) ∙ ap (λ m. m + 1) h.size);
      word = below_more (λ i. slice_get new i ≡ Some (word_of_row (place_in (get_or newest (first + i) no_newest)))) n
          (λ i l. ap (λ xs. slice_get xs i) is ∙ (get_front words word i (omega (arith, l, h.size)) ∙ h.word i l))
          (ap (λ xs. slice_get xs n) is ∙ (subst (λ m. slice_get (words ++ (word ∷ [])) m ≡ Some word) h.size (get_last words word) ∙ ap (λ x. Some (word_of_row (place_in x))) found));
    }
