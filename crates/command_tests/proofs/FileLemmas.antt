-- Files that were looked at one after another.
use Rattle.std.proofs.Common.{◌≡◌, ◌≢◌, ◌<◌, ◌≤◌, ◌+◌, inl, inr, ℕ, Bool, true, false, List, Some, None, nat_eq, length, map, sym, ap, subst, ◌∙◌, arith}
use Rattle.std.specs.Prelude.{slice_get}
use Rattle.std.specs.List.{slice_index_or}
use Rattle.std.specs.Option.{option_map}
use Rattle.std.proofs.lemmas.Bool.{cases_lt}
use Rattle.std.proofs.lemmas.List.{length-map}
use Rattle.std.proofs.lemmas.Option.{slice_get-get_or, slice_get-map, slice_get_past}
use lib.Pointwise.{pointwise, bytes_decides}
use Rattle.commands.specs.Files.{Stored}
use Rattle.command_tests.specs.Files.{HasFile, LacksFile}

-- what is looked at stands at its place
file_at : {A B : Type 0} (v : A → B) (xs : List A) (k : ℕ) (x : A) → k < length xs → x ≡ slice_index_or xs k x → slice_get (map v xs) k ≡ Some (v x)
file_at v xs k x within is = slice_get-map v xs k ∙ (ap (option_map v) (slice_get-get_or xs k x within) ∙ ap (λ y. Some (v y)) (sym is))

-- it is the file of a path that it has
pub found_at : {A : Type 0} (v : A → Stored) (xs : List A) (k : ℕ) (x : A) (path bytes : List ℕ) (same : Bool) → k < length xs → x ≡ slice_index_or xs k x
    → same ≡ pointwise nat_eq (v x).path path → same ≡ true → (v x).done ≡ true → bytes ≡ (v x).bytes → HasFile (map v xs) path bytes
found_at v xs k x path bytes same within is asked agrees done bytes_is =
    let path_is : (v x).path ≡ path = (bytes_decides (v x).path path).0 (sym asked ∙ agrees) in
    (k, file_at v xs k x within is ∙ (λ i. Some (record { path = path_is i; bytes = sym bytes_is i; done = done i })))

-- so far none has the path
abbrev pub LacksBelow : List Stored → List ℕ → ℕ → Type 0
LacksBelow files path k = (at : ℕ) (file : Stored) → at < k → slice_get files at ≡ Some file → file.path ≢ path

pub lacks_more : {A : Type 0} (v : A → Stored) (xs : List A) (k : ℕ) (x : A) (path : List ℕ) (same : Bool) → k < length xs → x ≡ slice_index_or xs k x
    → same ≡ pointwise nat_eq (v x).path path → same ≡ false → LacksBelow (map v xs) path k → LacksBelow (map v xs) path (k + 1)
lacks_more v xs k x path same within is asked differs before at file below found has = elim (cases_lt at k) [
  | inl lt ↦ before at file lt found has
  | inr ge ↦
      let at_is : k ≡ at = omega (arith, below, ge) in
      let both : Some file ≡ Some (v x) = sym found ∙ (ap (slice_get (map v xs)) (sym at_is) ∙ file_at v xs k x within is) in
      let file_is : file ≡ v x = cc in
      let path_is : (v x).path ≡ path = ap (λ (f : Stored). f.path) (sym file_is) ∙ has in
      let agrees : same ≡ true = asked ∙ (bytes_decides (v x).path path).1 path_is in
      let clash : true ≡ false = sym agrees ∙ differs in
      let never : ⊥ = cc in
      absurd never
]

pub lacks_all : {A : Type 0} (v : A → Stored) (xs : List A) (k : ℕ) (path : List ℕ) → length xs ≤ k → LacksBelow (map v xs) path k → LacksFile (map v xs) path
lacks_all v xs k path past before at file found has = elim (cases_lt at k) [
  | inl lt ↦ before at file lt found has
  | inr ge ↦
      let long : length (map v xs) ≤ at = omega (arith, past, ge, length-map xs v) in
      let none : None ≡ Some file = sym (slice_get_past (map v xs) at long) ∙ found in
      let never : ⊥ = cc in
      absurd never
]
