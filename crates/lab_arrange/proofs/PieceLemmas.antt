-- The pieces, one row more.
use Rattle.std.proofs.Common.{◌≡◌, ℕ, suc, ◌+◌, ◌<◌, All, List, [], ◌∷◌, ◌++◌, length, map, take, set, Option, Some, None, IfSome, refl, sym, ap, ◌∙◌, subst, arith}
use Rattle.std.proofs.Common.{length-set}
use Rattle.std.specs.Prelude.{option_map}
use Rattle.std.specs.List.{range_with_len}
use Rattle.std.proofs.Math.Seq.{take-suc-set}
use Rattle.std.proofs.lemmas.List.{take_all}
use Rattle.std.proofs.lemmas.List.FromFn.{map-range_with_len_more}
use Rattle.std.proofs.lemmas.List.Elements.{All-append, All-cons}
use Rattle.page_layout.specs.declared.geometry.Geometry.{Geometry}
use Rattle.page_layout.specs.Geometry.{page_bytes, row_count}
use Rattle.lab_arrange.specs.Arranged.{AreSized}

-- what holds of the pieces, where they are known
abbrev pub Of : Option (List (List ℕ)) → (List (List ℕ) → Type 0) → Type 0
Of pieces P = IfSome pieces P

put_as : (pieces new : Option (List (List ℕ))) (row : ℕ) (bytes : List ℕ) (P Q : List (List ℕ) → Type 0) → new ≡ option_map (λ ps. set ps row bytes) pieces → Of pieces P → ((ps : List (List ℕ)) → P ps → Q (set ps row bytes)) → Of new Q
put_as None new row bytes P Q e h more = subst (λ o. Of o Q) (sym e) tt
put_as (Some ps) new row bytes P Q e h more = subst (λ o. Of o Q) (sym e) (more ps h)

pub count_more : (pieces new : Option (List (List ℕ))) (row rows : ℕ) (bytes : List ℕ) → new ≡ option_map (λ ps. set ps row bytes) pieces → Of pieces (λ ps. length ps ≡ rows) → Of new (λ ps. length ps ≡ rows)
count_more pieces new row rows bytes e h = put_as pieces new row bytes (λ ps. length ps ≡ rows) (λ ps. length ps ≡ rows) e h (λ ps size. length-set ps row bytes ∙ size)

-- the first rows are written
pub record IsWritten (f : ℕ → List ℕ) (rows row : ℕ) (ps : List (List ℕ)) : Type 0 where
  pub count : length ps ≡ rows
  pub front : take row ps ≡ map f (range_with_len 0 row)

pub written_more : (pieces new : Option (List (List ℕ))) (f : ℕ → List ℕ) (row rows : ℕ) (bytes : List ℕ) → row < rows → new ≡ option_map (λ ps. set ps row bytes) pieces → bytes ≡ f row → Of pieces (IsWritten f rows row) → Of new (IsWritten f rows (row + 1))
written_more pieces new f row rows bytes within e is h = put_as pieces new row bytes (IsWritten f rows row) (IsWritten f rows (row + 1)) e h more
  where
    more : (ps : List (List ℕ)) → IsWritten f rows row ps → IsWritten f rows (row + 1) (set ps row bytes)
    more ps w =
        let next : row + 1 ≡ suc row = omega arith in
        let size = w.count in
        record {
          count = length-set ps row bytes ∙ w.count;
          front = ap (λ k. take k (set ps row bytes)) next
              ∙ (take-suc-set ps row bytes (omega arith) ∙ (ap (λ xs. xs ++ bytes ∷ []) w.front ∙ (ap (λ b. map f (range_with_len 0 row) ++ b ∷ []) is ∙ sym (map-range_with_len_more f 0 row row (omega arith)))));
        }

pub written_none : (pieces : Option (List (List ℕ))) (f : ℕ → List ℕ) (rows : ℕ) → Of pieces (λ ps. length ps ≡ rows) → Of pieces (IsWritten f rows 0)
written_none None f rows h = tt
written_none (Some ps) f rows h = record { count = h; front = refl }

pub written_all : (pieces : Option (List (List ℕ))) (f : ℕ → List ℕ) (rows row : ℕ) → row ≡ rows → Of pieces (IsWritten f rows row) → Of pieces (λ ps. ps ≡ map f (range_with_len 0 rows))
written_all None f rows row e h = tt
written_all (Some ps) f rows row e h =
    let size = h.count in
    sym (take_all row ps (omega arith)) ∙ (h.front ∙ ap (λ k. map f (range_with_len 0 k)) e)

-- the first rows have whole pages
pub record IsSized (n rows row : ℕ) (ps : List (List ℕ)) : Type 0 where
  pub count : length ps ≡ rows
  pub sizes : All (λ p. length p ≡ n) (take row ps)

pub sized_more : (pieces new : Option (List (List ℕ))) (n row rows : ℕ) (bytes : List ℕ) → row < rows → new ≡ option_map (λ ps. set ps row bytes) pieces → length bytes ≡ n → Of pieces (IsSized n rows row) → Of new (IsSized n rows (row + 1))
sized_more pieces new n row rows bytes within e is h = put_as pieces new row bytes (IsSized n rows row) (IsSized n rows (row + 1)) e h more
  where
    P : List ℕ → Type 0
    P p = length p ≡ n

    more : (ps : List (List ℕ)) → IsSized n rows row ps → IsSized n rows (row + 1) (set ps row bytes)
    more ps w =
        let next : suc row ≡ row + 1 = omega arith in
        let size = w.count in
        let last : All P (bytes ∷ []) = All-cons P bytes [] is (λ k d l. absurd (omega arith)) in
        record {
          count = length-set ps row bytes ∙ w.count;
          sizes = subst (λ k. All P (take k (set ps row bytes))) next (subst (All P) (sym (take-suc-set ps row bytes (omega arith))) (All-append P (take row ps) (bytes ∷ []) w.sizes last));
        }

pub sized_none : (pieces : Option (List (List ℕ))) (n rows : ℕ) → Of pieces (λ ps. length ps ≡ rows) → Of pieces (IsSized n rows 0)
sized_none None n rows h = tt
sized_none (Some ps) n rows h = record { count = h; sizes = λ k d l. absurd (omega arith) }

pub sized_all : (pieces : Option (List (List ℕ))) (g : Geometry) (row : ℕ) → row ≡ row_count g → Of pieces (IsSized (page_bytes g) (row_count g) row) → Of pieces (AreSized g)
sized_all None g row e h = tt
sized_all (Some ps) g row e h =
    let size = h.count in
    record { rows = h.count; sizes = subst (All (λ p. length p ≡ page_bytes g)) (take_all row ps (omega arith)) h.sizes }
