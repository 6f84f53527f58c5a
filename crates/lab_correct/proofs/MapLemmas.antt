-- The lines of a map, one after another.
use Rattle.std.proofs.Common.{◌≡◌, ℕ, suc, ◌+◌, ◌-◌, ◌*◌, ◌<◌, ◌≤◌, Bool, true, false, if◌then◌else◌, List, [], ◌∷◌, ◌++◌, length, get_or, Option, refl, sym, ap, subst, ◌∙◌, arith}
use Rattle.std.specs.Prelude.{codes, nat_le}
use Rattle.std.proofs.lemmas.Bool.{le-leb, lt-leb}
use Rattle.std.specs.Io.KnownBytes.{Appends}
use Rattle.std.proofs.KnownBytes.{Appends-nil, Appends-trans}
use Rattle.std.proofs.lemmas.List.{get_or-map}
use Rattle.page_layout.specs.declared.geometry.Geometry.{Geometry}
use Rattle.page_layout.specs.Geometry.{page_bytes, row_count}
use Rattle.lab_dump.specs.declared.map_head.Remark.TheVariants.{Dump}
use Rattle.lab_dump.specs.declared.mark.MapMark.{MapMark}
use Rattle.lab_dump.specs.declared.mark.MapMark.TheVariants.{Finished, Bad}
use Rattle.lab_dump.specs.Map.{area_words, map_head}
use Rattle.lab_correct.specs.declared.correcting.Loss.{Loss}
use Rattle.lab_correct.specs.Map.{LossMapLaw, parts_below, rows_text, loss_map_text, loss_text, next_row, row_at, status_text}

pub parts_none : (size : ℕ) (losses : List Loss) (o : Option (List ℕ)) → Appends o o (parts_below size losses 0)
unfolding parts_below
parts_none size losses o = Appends-nil o

pub parts_more : (size : ℕ) (losses : List Loss) (n : ℕ) → parts_below size losses n ++ loss_text size (next_row losses n) (row_at losses n) ≡ parts_below size losses (n + 1)
unfolding parts_below
parts_more size losses n = let next : suc n ≡ n + 1 = omega arith in ap (parts_below size losses) next

pub row_is : (losses : List Loss) (n : ℕ) (d : Loss) → n < length losses → (get_or losses n d).row ≡ row_at losses n
row_is losses n d within = sym (get_or-map (λ l. l.row) losses n d 0 within)

pub parts_then : (size : ℕ) (losses : List Loss) (n next row : ℕ) (a b d : Option (List ℕ)) → next ≡ next_row losses n → row ≡ row_at losses n → Appends a b (parts_below size losses n) → Appends b d (loss_text size next row) → Appends a d (parts_below size losses (n + 1))
parts_then size losses n next row a b d e f before here =
    subst (λ t. Appends a d t) (parts_more size losses n)
    (Appends-trans a b d _ _ before (subst (λ t. Appends b d t) (ap (λ k. loss_text size k row) e ∙ ap (λ k. loss_text size (next_row losses n) k) f) here))

pub part_is : (size first first' end end' : ℕ) → first ≡ first' → end ≡ end' → rows_text size first end Finished ≡ rows_text size first' end' Finished
part_is size first first' end end' e f = ap (λ k. rows_text size k end Finished) e ∙ ap (λ k. rows_text size first' k Finished) f

-- ---- the law

some_rows : (size first end : ℕ) (mark : MapMark) → first < end → rows_text size first end mark ≡ area_words (first * size) ((end - first) * size) mark ++ (10 ∷ [])
some_rows size first end mark some = ap (λ (b : Bool). if b then [] else (area_words (first * size) ((end - first) * size) mark ++ (10 ∷ []))) (lt-leb end first some)

no_rows : (size row : ℕ) (mark : MapMark) → rows_text size row row mark ≡ []
no_rows size row mark = ap (λ (b : Bool). if b then [] else (area_words (row * size) ((row - row) * size) mark ++ (10 ∷ []))) (le-leb row row (omega arith))

one_row : (size row : ℕ) → rows_text size row (row + 1) Bad ≡ status_text (row * size) size (codes "-")
one_row size row =
    let alone : (row + 1 - row) * size ≡ size = ap (λ k. k * size) (let one : row + 1 - row ≡ 1 = omega arith in one) ∙ omega arith in
    some_rows size row (row + 1) Bad (omega arith) ∙ ap (λ k. area_words (row * size) k Bad ++ (10 ∷ [])) alone

lost_behind : (size next row : ℕ) → next < row → loss_text size next row ≡ status_text (next * size) ((row - next) * size) (codes "+") ++ status_text (row * size) size (codes "-")
lost_behind size next row some = ap (λ t. t ++ rows_text size row (row + 1) Bad) (some_rows size next row Finished some) ∙ ap (λ t. status_text (next * size) ((row - next) * size) (codes "+") ++ t) (one_row size row)

lost_beside : (size row : ℕ) → loss_text size row row ≡ status_text (row * size) size (codes "-")
lost_beside size row = ap (λ t. t ++ rows_text size row (row + 1) Bad) (no_rows size row Finished) ∙ one_row size row

none_lost : (g : Geometry) → 0 < row_count g → loss_map_text g [] ≡ map_head Dump ++ status_text 0 (row_count g * page_bytes g) (codes "+")
unfolding parts_below
none_lost g some =
    let first : 0 * page_bytes g ≡ 0 = omega arith in
    let all : row_count g - 0 ≡ row_count g = omega arith in
    ap (λ t. map_head Dump ++ t) (some_rows (page_bytes g) 0 (row_count g) Finished some
    ∙ (ap (λ k. area_words k ((row_count g - 0) * page_bytes g) Finished ++ (10 ∷ [])) first ∙ ap (λ k. area_words 0 (k * page_bytes g) Finished ++ (10 ∷ [])) all))

pub loss_map_law : LossMapLaw
loss_map_law = record { behind = lost_behind; beside = lost_beside; none = none_lost }
