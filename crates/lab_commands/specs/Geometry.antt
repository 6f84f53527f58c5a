-- What the command `geometry` comes to.
use Rattle.std.specs.Prelude.{◌≡◌, ◌⊎◌, ◌<◌, ℕ, List, [], ◌∷◌, true, false, length, Option, Some, None, IfSome, IsPermutation, Bool}
use Rattle.std.specs.List.Sorted.{IsSorted}
use Rattle.std.specs.Io.KnownBytes.{Appends}
use Rattle.lab_dump.specs.declared.fit.Fit.{Fit}
use Rattle.lab_dump.specs.declared.nearest.Legible.{Legible}
use Rattle.lab_dump.specs.Nearest.{nearest_of}
use Rattle.lab_correct.specs.declared.found.FoundFit.{FoundFit}
use Rattle.lab_correct.specs.Coded.{ArePossible, found_fits_of, found_rank}
use Rattle.lab_shapes.specs.declared.find.ArrangedFit.{ArrangedFit}
use Rattle.lab_shapes.specs.Arranged.{IsBest, IsPossibleAs}
use Rattle.lab_shapes.specs.Planes.{IsTurnedOf}
use Rattle.lab_commands.specs.declared.document.ReportForm.{ReportForm}
use Rattle.lab_dump.specs.Rooms.{IsNearestRoom}
use Rattle.lab_correct.specs.FoundRoom.{IsFoundRoom}
use Rattle.lab_shapes.specs.Rooms.{IsShapeRoom}
use Rattle.lab_commands.specs.declared.geometry.GeometryRooms.{GeometryRooms}
use Rattle.lab_commands.specs.declared.geometry.Fitting.{Fitting}
use Rattle.lab_commands.specs.declared.geometry.Fitting.TheVariants as fitting
use Rattle.lab_commands.specs.Reports.{arranged_fit_text, fits_text}
use Rattle.lab_commands.specs.declared.words.GeometryWords.{GeometryWords}
use Rattle.lab_commands.specs.declared.text.LabFault.{LabFault}
use Rattle.lab_commands.specs.declared.text.LabFault.TheVariants as fault
use Rattle.lab_commands.specs.Files.{IsFileOpened, Store, StoreAnswers}
use Rattle.lab_commands.specs.Undone.{IsHalfPrinted, IsUnread, IsUnroomed, LeavesAll, OpensForReading, form_of_showing}

-- ---- before the dump is opened

-- the memory of each search, in which nothing was found yet
pub record HasRooms (rooms : GeometryRooms) : Type 0 where
  pub fits : IsFoundRoom rooms.fits
  pub shapes : IsShapeRoom rooms.shapes
  pub nearest : IsNearestRoom rooms.nearest

-- ---- done

-- These are the geometries that fit, as the dump stands and with codes, best first: where its bytes are known just those that fit, each once. There is
-- one.
pub record AreGeometriesFound (known : Option (List ℕ)) (fits : List FoundFit) : Type 0 where
  pub all : IfSome known (λ bytes. IsPermutation (found_fits_of bytes) fits)
  pub ranked : IsSorted found_rank fits
  pub possible : ArePossible fits
  pub some : 0 < length fits

-- what more is told of a geometry that fits: nothing of one with codes; of any other that more of its pages are in their turn with the pages of two
-- planes in turns, where the dump's bytes are known
abbrev pub IsTurnedBy : (known : Option (List ℕ)) → (coded : Bool) → Fit → Option ArrangedFit → Type 0
IsTurnedBy known true fit turned = turned ≡ None
IsTurnedBy known false fit turned = IfSome known (λ bytes. IsTurnedOf bytes fit turned)

-- and it is told of the best one
abbrev pub IsTurned : (known : Option (List ℕ)) → List FoundFit → Option ArrangedFit → Type 0
IsTurned known [] turned = turned ≡ None
IsTurned known (best ∷ others) turned = IsTurnedBy known best.coded best.fit turned

-- None of them fits, and this is the geometry that fits best in another arrangement: where the dump's bytes are known, of all that are tried.
pub record IsFoundElse (known : Option (List ℕ)) (found : ArrangedFit) : Type 0 where
  pub none : IfSome known (λ bytes. found_fits_of bytes ≡ [])
  pub best : IfSome known (λ bytes. IsBest bytes (Some found))
  pub possible : IsPossibleAs found

abbrev pub FitsAre : Option (List ℕ) → Fitting → Type 0
FitsAre known (fitting.Stands fits turned) = AreGeometriesFound known fits.items × IsTurned known fits.items turned × IfSome turned IsPossibleAs
FitsAre known (fitting.Arranged found) = IsFoundElse known found

-- of a dump that reads so
pub record HasFound (a : StoreAnswers) (path : List ℕ) (fitting : Fitting) : Type 0 where
  pub known : Option (List ℕ)
  pub opened : IsFileOpened a path known
  pub fits : FitsAre known fitting

-- what is printed of it
abbrev pub fitting_text : ReportForm → Fitting → List ℕ
fitting_text form (fitting.Stands fits turned) = fits_text form fits.items turned
fitting_text form (fitting.Arranged found) = arranged_fit_text form found

-- and it was printed
pub record ToldFits (a : StoreAnswers) (words : GeometryWords) (out printed : Option (List ℕ)) : Type 0 where
  pub fitting : Fitting
  pub found : HasFound a words.dump.now fitting
  pub told : Appends out printed (fitting_text (form_of_showing words.showing) fitting)

-- ---- not done

-- No geometry fits the bytes of a dump, as far as they are known, neither as they stand nor with codes nor in an arrangement that is tried; and this
-- is the nearest record that can be read in them, if one can.
pub record FitsNone (known : Option (List ℕ)) (nearest : Option Legible) : Type 0 where
  pub none : IfSome known (λ bytes. found_fits_of bytes ≡ [])
  pub nowhere : IfSome known (λ bytes. IsBest bytes None)
  pub nearest_is : IfSome known (λ bytes. nearest ≡ nearest_of bytes)

-- why nothing was found: nothing fits, or a read failed
abbrev pub FitNothing : (known : Option (List ℕ)) → (broke : Bool) → List ℕ → LabFault → Type 0
FitNothing known broke path (fault.NoneFits nearest) = FitsNone known nearest
FitNothing known broke path (fault.Read told) = (told.now ≡ path) × (broke ≡ true)
FitNothing known broke path _ = ⊥

-- the dump was opened, and nothing fits it
pub record IsNoFit (a : StoreAnswers) (path : List ℕ) (nearest : Option Legible) : Type 0 where
  pub known : Option (List ℕ)
  pub opened : IsFileOpened a path known
  pub none : FitsNone known nearest

-- Why no geometries of a dump that was opened were found: a read failed, or none fits it.
abbrev pub IsUnfitted : StoreAnswers → List ℕ → LabFault → Type 0
IsUnfitted a path (fault.NoneFits nearest) = IsNoFit a path nearest
IsUnfitted a path (fault.Read told) = (told.now ≡ path) × OpensForReading a path × a.reads_fail
IsUnfitted a path _ = ⊥

-- The first of this order: the dump was not opened; it has no geometries.
abbrev pub IsGeometryUnfound : StoreAnswers → List ℕ → LabFault → Type 0
IsGeometryUnfound a path told = IsUnread a path told ⊎ IsUnfitted a path told

-- Nothing was printed: memory was refused, or for one of these reasons; or a beginning of the list was.
abbrev pub IsGeometryFault : StoreAnswers → GeometryWords → Option Store → Option Store → (opens opened : Option ℕ) → (broke : Bool) → Option (List ℕ) → Option (List ℕ) → LabFault → Type 0
IsGeometryFault a words before after opens opened broke out printed told =
    (LeavesAll before after out printed × (IsUnroomed opens opened told ⊎ IsGeometryUnfound a words.dump.now told))
    ⊎ ((after ≡ before) × ((fitting : Fitting) × HasFound a words.dump.now fitting × IsHalfPrinted broke out printed (fitting_text (form_of_showing words.showing) fitting) told))
