-- The geometries of a dump that none fits.
use Rattle.std.proofs.Common.{◌≡◌, ℕ, Bool, true, List, [], length, Option, Some, None, IfSome, Result, Ok, Err, IfOk, IfErr, inr, refl, sym, ◌∙◌}
use Rattle.lab_dump.specs.declared.nearest.Legible.{Legible}
use Rattle.lab_dump.specs.Nearest.{nearest_of}
use Rattle.lab_shapes.specs.declared.find.ArrangedFit.{ArrangedFit}
use Rattle.lab_shapes.specs.Arranged.{IsBest}
use Rattle.lab_commands.specs.declared.geometry.Fitting.{Fitting}
use Rattle.lab_commands.specs.declared.text.LabFault.{LabFault}
use Rattle.lab_commands.specs.declared.text.LabFault.TheVariants as fault
use Rattle.lab_commands.specs.Files.{IsFileOpened, StoreAnswers}
use Rattle.lab_commands.specs.Geometry.{FitNothing, FitsAre, HasFound, IsGeometryUnfound}
use Rattle.std.specs.List.Sorted.{IsPermutation}
use Rattle.std.proofs.lemmas.List.{nil_from_length}
use Rattle.std.proofs.lemmas.List.Sorted.{length_permutation}
use Rattle.lab_correct.specs.declared.found.FoundFit.{FoundFit}
use Rattle.lab_correct.specs.Coded.{found_fits_of}

-- where none was found none fits
pub none_fit : (known : Option (List ℕ)) (items : List FoundFit) → ((all : List ℕ) → known ≡ Some all → IsPermutation (found_fits_of all) items) → length items ≡ 0 → IfSome known (λ bytes. found_fits_of bytes ≡ [])
none_fit None items h none = tt
none_fit (Some all) items h none = nil_from_length (found_fits_of all) (sym (length_permutation (found_fits_of all) items (h all refl)) ∙ none)

-- what is known of the bytes
pub known_best : (known : Option (List ℕ)) (found : Option ArrangedFit) → ((all : List ℕ) → known ≡ Some all → IsBest all found) → IfSome known (λ bytes. IsBest bytes found)
known_best None found h = tt
known_best (Some all) found h = h all refl

pub known_nearest : (known : Option (List ℕ)) (nearest : Option Legible) → ((all : List ℕ) → known ≡ Some all → nearest ≡ nearest_of all) → IfSome known (λ bytes. nearest ≡ nearest_of bytes)
known_nearest None nearest h = tt
known_nearest (Some all) nearest h = h all refl

pub known_all : (known : Option (List ℕ)) (items : List FoundFit) → ((all : List ℕ) → known ≡ Some all → IsPermutation (found_fits_of all) items) → IfSome known (λ bytes. IsPermutation (found_fits_of bytes) items)
known_all None items h = tt
known_all (Some all) items h = h all refl

-- of a dump that was opened
pub found_in : (a : StoreAnswers) (path : List ℕ) (known : Option (List ℕ)) (r : Result Fitting LabFault) → IsFileOpened a path known → IfOk r (FitsAre known) → IfOk r (HasFound a path)
found_in a path known (Ok fitting) opened h = record { known = known; opened = opened; fits = h }
found_in a path known (Err f) opened h = tt

pub nothing_in : (a : StoreAnswers) (path : List ℕ) (known : Option (List ℕ)) (broke : Bool) (r : Result Fitting LabFault) → IsFileOpened a path known → (broke ≡ true → a.reads_fail) → IfErr r (FitNothing known broke path) → IfErr r (IsGeometryUnfound a path)
nothing_in a path known broke (Ok fitting) opened fails h = tt
nothing_in a path known broke (Err (fault.NoneFits nearest)) opened fails h = inr (record { known = known; opened = opened; none = h })
nothing_in a path known broke (Err (fault.Read told)) opened fails (named, failed) = inr (named, record { known = known; opened = opened }, fails failed)
nothing_in a path known broke (Err _) opened fails h = absurd h
