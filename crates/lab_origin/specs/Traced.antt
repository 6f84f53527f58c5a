-- What a dump held beside its readings comes to, and why it was not.
use Rattle.std.specs.Prelude.{◌≡◌, ℕ, ◌<◌, Bool, true, false, List, [], length, get_or, Option, None, IfSome}
use Rattle.page_layout.specs.declared.geometry.Geometry.{Geometry}
use Rattle.lab_dump.specs.Scan.{image_bytes}
use Rattle.lab_dump.specs.declared.mark.MapMark.{MapMark}
use Rattle.lab_origin.specs.declared.readings.ReadingFault.{ReadingFault}
use Rattle.lab_origin.specs.declared.readings.ReadingFault.TheVariants as reading
use Rattle.lab_origin.specs.declared.trace.OriginFault.{OriginFault}
use Rattle.lab_origin.specs.declared.trace.OriginFault.TheVariants as fault
use Rattle.lab_origin.specs.Origin.{marks_of}

-- ---- done

-- each reading has as many bytes as an image
abbrev pub AreReadingsWhole : Geometry → List (List ℕ) → Type 0
AreReadingsWhole g files = (i : ℕ) → i < length files → length (get_or files i []) ≡ image_bytes g

-- So have the dump and its readings, and the marks are those of its sectors.
pub record IsTraced (g : Geometry) (last : Option ℕ) (dump : List ℕ) (readings : List (List ℕ)) (marks : List MapMark) : Type 0 where
  pub whole : length dump ≡ image_bytes g
  pub readings_whole : AreReadingsWhole g readings
  pub marks_are : marks ≡ marks_of g last dump readings

-- ---- not done

-- a fault that names a reading names one of so many
abbrev pub NamesOneOfReadings : ℕ → ReadingFault → Type 0
NamesOneOfReadings count (reading.WrongLength i) = i < count
NamesOneOfReadings count (reading.Source i) = i < count

-- a fault of a reading says that it has failed
abbrev pub SaysReadingFailed : List Bool → ReadingFault → Type 0
SaysReadingFailed failed (reading.WrongLength i) = Unit {0}
SaysReadingFailed failed (reading.Source i) = get_or failed i false ≡ true

-- its bytes, where they are known, are not as many as an image has, or are
abbrev pub IsOfWrongLength : Geometry → Option (List ℕ) → Type 0
IsOfWrongLength g known = IfSome known (λ bytes. ¬ (length bytes ≡ image_bytes g))

abbrev pub IsOfRightLength : Geometry → Option (List ℕ) → Type 0
IsOfRightLength g known = IfSome known (λ bytes. length bytes ≡ image_bytes g)

-- the reading of this number is the first of another length
pub record IsFirstOdd (g : Geometry) (known : List (Option (List ℕ))) (i : ℕ) : Type 0 where
  pub odd : IsOfWrongLength g (get_or known i None)
  pub before : (j : ℕ) → j < i → IsOfRightLength g (get_or known j None)

-- `WrongLength` names the first reading of another length
abbrev pub IsOtherSize : Geometry → List (Option (List ℕ)) → ReadingFault → Type 0
IsOtherSize g known (reading.WrongLength i) = IsFirstOdd g known i
IsOtherSize g known (reading.Source i) = Unit {0}

-- it is told where the dump has its length
abbrev pub IsOddReading : Geometry → Option (List ℕ) → List (Option (List ℕ)) → ReadingFault → Type 0
IsOddReading g dump known (reading.WrongLength i) = IsOfRightLength g dump × IsFirstOdd g known i
IsOddReading g dump known (reading.Source i) = Unit {0}

-- the same of a dump and its readings, in this order
abbrev pub IsUntraced : Geometry → Option (List ℕ) → List (Option (List ℕ)) → OriginFault → Type 0
IsUntraced g dump readings fault.WrongLength = IsOfWrongLength g dump
IsUntraced g dump readings fault.Source = Unit {0}
IsUntraced g dump readings (fault.Reading told) = IsOddReading g dump readings told

abbrev pub IsOfSome : ℕ → OriginFault → Type 0
IsOfSome count (fault.Reading told) = NamesOneOfReadings count told
IsOfSome count _ = Unit {0}

abbrev pub ArePinned : Bool → List Bool → OriginFault → Type 0
ArePinned dump readings fault.WrongLength = Unit {0}
ArePinned dump readings fault.Source = dump ≡ true
ArePinned dump readings (fault.Reading told) = SaysReadingFailed readings told
