-- Rows of newest pages: each is one of those seen so far.
use Rattle.std.proofs.Common.{◌≡◌, ℕ, ◌+◌, ◌<◌, All, List, length, get_or, set, Option, Some, None, subst, sym, arith}
use Rattle.std.proofs.lemmas.List.Elements.{All-set}
use Rattle.page_layout.specs.declared.geometry.Geometry.{Geometry}
use Rattle.page_layout.specs.declared.record.Key.{Key}
use Rattle.page_layout.specs.Geometry.{key_count}
use Rattle.page_layout.specs.Live.{IsKeyOf}
use Rattle.certificate.specs.Spelling.{IsRowOf}
use Rattle.image_check.specs.declared.newest.Newest.{Newest}
use Rattle.image_check.specs.Newest.{place_in}
use Rattle.image_check.specs.Survey.{index_of}
use Rattle.image_check.proofs.SurveyLemmas.{index_within}

row_more : (row : ℕ) (o : Option ℕ) → IsRowOf row o → IsRowOf (row + 1) o
row_more row None h = tt
row_more row (Some n) h = omega arith

pub within_more : (row : ℕ) (items : List Newest) → All (λ x. IsRowOf row (place_in x)) items → All (λ x. IsRowOf (row + 1) (place_in x)) items
within_more row items h = λ i d l. row_more row (place_in (get_or items i d)) (h i d l)

pub within_set : (g : Geometry) (key : Key) (row i : ℕ) (items : List Newest) (d new : Newest) → length items ≡ key_count g → IsKeyOf g key → i ≡ index_of g key
    → (IsRowOf row (place_in (get_or items i d)) → IsRowOf (row + 1) (place_in new)) → All (λ x. IsRowOf row (place_in x)) items → All (λ x. IsRowOf (row + 1) (place_in x)) (set items i new)
within_set g key row i items d new size within at next h =
    let there : i < length items = subst (λ n. i < n) (sym size) (subst (λ k. k < key_count g) (sym at) (index_within g key within)) in
    All-set (λ x. IsRowOf (row + 1) (place_in x)) items i new (next (h i d there)) (within_more row items h)
