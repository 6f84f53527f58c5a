-- The readings, one after another.
use Rattle.std.proofs.Common.{◌≡◌, ℕ, ◌+◌, ◌<◌, ◌||◌, Bool, true, false, List, [], length, get_or, set, map, take, Option, Some, None, refl, sym, ap, ◌∙◌, subst, arith}
use Rattle.std.proofs.lemmas.List.{get_or-map, get_or-set_same, length-map, map-set}
use Rattle.std.proofs.lemmas.List.Folds.{list_any_at, list_any_more}
use Rattle.std.proofs.Math.Seq.{map-set_same, take-length}
use Rattle.lab_origin.specs.Origin.{has_at}
use Rattle.page_layout.specs.declared.geometry.Geometry.{Geometry}
use Rattle.lab_dump.specs.Scan.{image_bytes, Tell}
use Rattle.lab_origin.specs.Traced.{AreReadingsWhole, IsOddReading, IsOfRightLength, IsOfWrongLength, IsOtherSize}
use Rattle.lab_origin.specs.Tracing.{have_at}
use Rattle.lab_origin.specs.declared.readings.ReadingFault.{ReadingFault}
use Rattle.lab_origin.specs.declared.readings.ReadingFault.TheVariants as reading

-- what one of them tells
pub tell_at : {X : Type 0} (f : X → Option (List ℕ)) (xs : List X) (files : List (List ℕ)) (i : ℕ) (d : X) → Tell (map f xs) files → i < length xs → f (get_or xs i d) ≡ Some (get_or files i [])
tell_at f xs files i d told l =
    let count : length xs ≡ length files = sym (length-map xs f) ∙ (ap length told ∙ length-map files Some) in
    sym (get_or-map f xs i d None l) ∙ (ap (λ ks. get_or ks i None) told ∙ get_or-map Some files i [] None (omega arith))

pub tell_count : {X : Type 0} (f : X → Option (List ℕ)) (xs : List X) (files : List (List ℕ)) → Tell (map f xs) files → length files ≡ length xs
tell_count f xs files told = sym (length-map files Some) ∙ (ap length (sym told) ∙ length-map xs f)

-- one was asked, and tells what it did
pub asked_same : {X : Type 0} (f : X → Option (List ℕ)) (xs first : List X) (i : ℕ) (y d : X) → map f xs ≡ map f first → f y ≡ f (get_or xs i d) → map f (set xs i y) ≡ map f first
asked_same f xs first i y d before same = map-set_same f xs i y d same ∙ before

-- one of them has failed
pub failed_at : {X : Type 0} (f : X → Bool) (xs : List X) (i : ℕ) (y : X) → i < length xs → f y ≡ true → get_or (map f (set xs i y)) i false ≡ true
failed_at f xs i y l e = ap (λ ks. get_or ks i false) (map-set f xs i y) ∙ (get_or-set_same (map f xs) i (f y) false (omega (arith, length-map xs f)) ∙ e)

-- ---- how long they are

-- what is known of the one that is asked
pub asked_is : {X : Type 0} (f : X → Option (List ℕ)) (xs first : List X) (i : ℕ) (d : X) → map f xs ≡ map f first → i < length xs → get_or (map f first) i None ≡ f (get_or xs i d)
asked_is f xs first i d same l = ap (λ ks. get_or ks i None) (sym same) ∙ get_or-map f xs i d None l

pub right_at : (g : Geometry) (known : Option (List ℕ)) → ((all : List ℕ) → known ≡ Some all → length all ≡ image_bytes g) → IsOfRightLength g known
right_at g None h = tt
right_at g (Some all) h = h all refl

pub odd_at : (g : Geometry) (known : Option (List ℕ)) → ((all : List ℕ) → known ≡ Some all → ¬ (length all ≡ image_bytes g)) → IsOfWrongLength g known
odd_at g None h = tt
odd_at g (Some all) h = h all refl

-- all of those that tell their bytes
pub all_whole : (g : Geometry) (known : List (Option (List ℕ))) (files : List (List ℕ)) (n : ℕ) → Tell known files → n ≡ length known → ((i : ℕ) → i < n → IsOfRightLength g (get_or known i None)) → AreReadingsWhole g files
all_whole g known files n told count each = λ i l.
    let within : i < n = omega (arith, count, ap length told, length-map files Some) in
    subst (IsOfRightLength g) (ap (λ ks. get_or ks i None) told ∙ get_or-map Some files i [] None l) (each i within)

-- of a dump that has its length
pub odd_beside : (g : Geometry) (dump : Option (List ℕ)) (known : List (Option (List ℕ))) (f : ReadingFault) → IsOfRightLength g dump → IsOtherSize g known f → IsOddReading g dump known f
odd_beside g dump known (reading.WrongLength i) whole h = (whole, h)
odd_beside g dump known (reading.Source i) whole h = tt

-- ---- whether one has these bytes

pub none_yet : (at : ℕ) (piece : List ℕ) (files : List (List ℕ)) → have_at at piece (take 0 files) ≡ false
none_yet at piece files = refl

pub none_more : (at : ℕ) (piece : List ℕ) (files : List (List ℕ)) (i : ℕ) → i < length files → have_at at piece (take i files) ≡ false → false ≡ has_at at piece (get_or files i []) → have_at at piece (take (i + 1) files) ≡ false
none_more at piece files i l before here = list_any_more (has_at at piece) files i [] l ∙ (ap (λ b. b || has_at at piece (get_or files i [])) before ∙ sym here)

pub none_of_all : (at : ℕ) (piece : List ℕ) (files : List (List ℕ)) (i : ℕ) → i ≡ length files → have_at at piece (take i files) ≡ false → false ≡ have_at at piece files
none_of_all at piece files i all none = sym none ∙ (ap (λ k. have_at at piece (take k files)) all ∙ ap (have_at at piece) (take-length files))

pub one_has : (at : ℕ) (piece : List ℕ) (files : List (List ℕ)) (i : ℕ) → i < length files → true ≡ has_at at piece (get_or files i []) → true ≡ have_at at piece files
one_has at piece files i l here = sym (list_any_at (has_at at piece) files i [] l (sym here))
