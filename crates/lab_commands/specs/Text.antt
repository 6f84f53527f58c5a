-- What the program says of a command that ended before it was done.
use Rattle.page_layout.specs.Faults.{broken_limit_words}
use Rattle.certificate.specs.Faults.{certificate_words}
use Rattle.std.specs.Prelude.{◌≡◌, ◌⊎◌, ℕ, Bool, true, List, [], ◌∷◌, ◌++◌, codes, Option, Some, None}
use Rattle.std.specs.Io.KnownBytes.{Appends}
use Rattle.request_stream.specs.Frames.{AppendsPart}
use Rattle.std.specs.Fmt.{decimal}
use Rattle.lab_arrange.specs.declared.fitting.UnfitFault.{UnfitFault}
use Rattle.lab_arrange.specs.declared.fitting.UnfitFault.TheVariants as unfit
use Rattle.lab_dump.specs.declared.nearest.Legible.{Legible}
use Rattle.lab_commands.specs.declared.text.LabFault.{LabFault}
use Rattle.lab_commands.specs.declared.text.LabFault.TheVariants.{NoSuchCommand, BadNumber, Geometry, NoneFits, RowRange, SectorRange, WrongLength, DumpLength, ReadingLength, OutOfMemory, Certificate, GeometryDiffers, BadArrangement, Unfit}
use Rattle.lab_commands.specs.declared.text.LabFault.TheVariants.{ArrangedLength, BitRange, PageSize}
use Rattle.lab_commands.specs.declared.text.LabFault.TheVariants.{IsDump, Exists, NoFile, MapIsOut, MapIsDump, MapExists, MapNoFile, Read, Write}
use Rattle.lab_commands.specs.declared.text.Rest.{Rest}
use Rattle.lab_commands.specs.declared.text.Rest.TheVariants.{Words, Name, Lengths}
use Rattle.lab_commands.specs.declared.text.Rest.TheVariants as rest
use Rattle.lab_commands.specs.Lines.{record_words}
use Rattle.lab_commands.specs.Names.{shown_name}

-- the number and the name of why no die stands in an arrangement
abbrev pub unfit_words : UnfitFault → List ℕ
unfit_words unfit.OddBlocks = codes "2 OddBlocks"
unfit_words unfit.CutRange = codes "3 CutRange"

-- how many bytes were wanted, and how many were found
abbrev pub lengths_words : ℕ → ℕ → List ℕ
lengths_words wanted found = codes "wanted " ++ (decimal wanted ++ (codes " found " ++ decimal found))

-- what can be read at a byte of a dump, whatever its seal
abbrev pub nearest_words : Legible → List ℕ
nearest_words x = codes "byte " ++ (decimal x.at ++ record_words x.says [])

-- what a line ends with
abbrev pub line_end_words : Rest → List ℕ
line_end_words (Words words) = words.now
line_end_words (Name name) = shown_name name.now
line_end_words (Lengths wanted found) = lengths_words wanted found
line_end_words (rest.Legible found) = nearest_words found

-- the line, without its line feed; a name in it is as it is printed
abbrev pub lab_fault_line : LabFault → List ℕ
lab_fault_line NoSuchCommand = codes "usage: no such command, see nandlab --help"
lab_fault_line (BadNumber word) = codes "usage: bad number " ++ shown_name word.now
lab_fault_line (Geometry fault) = codes "refused geometry " ++ broken_limit_words fault
lab_fault_line (NoneFits None) = codes "refused geometry 6 NoneFits"
lab_fault_line (NoneFits (Some nearest)) = codes "refused geometry 6 NoneFits " ++ nearest_words nearest
lab_fault_line RowRange = codes "refused rows 1 RowRange"
lab_fault_line BitRange = codes "refused bits 1 BitRange"
lab_fault_line PageSize = codes "refused bits 2 PageSize"
lab_fault_line SectorRange = codes "refused sector 1 OutOfRange"
lab_fault_line IsDump = codes "refused out 1 IsDump"
lab_fault_line Exists = codes "refused out 2 Exists"
lab_fault_line NoFile = codes "refused out 3 NoFile"
lab_fault_line MapIsOut = codes "refused map 1 IsOut"
lab_fault_line MapIsDump = codes "refused map 2 IsDump"
lab_fault_line MapExists = codes "refused map 3 Exists"
lab_fault_line MapNoFile = codes "refused map 4 NoFile"
lab_fault_line WrongLength = codes "refused image 1 WrongLength"
lab_fault_line (DumpLength path) = codes "refused merge 1 DumpLength " ++ shown_name path.now
lab_fault_line (ReadingLength path) = codes "refused origin 1 ReadingLength " ++ shown_name path.now
lab_fault_line OutOfMemory = codes "refused image 3 OutOfMemory"
lab_fault_line (Certificate broken) = codes "refused certificate " ++ certificate_words broken
lab_fault_line GeometryDiffers = codes "refused compare 1 GeometryDiffers"
lab_fault_line (BadArrangement word) = codes "usage: bad arrangement " ++ shown_name word.now
lab_fault_line (Unfit broken) = codes "refused arrange " ++ unfit_words broken
lab_fault_line (ArrangedLength wanted found) = codes "refused arrange 1 WrongLength " ++ lengths_words wanted found
lab_fault_line (Read path) = codes "fault read " ++ shown_name path.now
lab_fault_line (Write path) = codes "fault write " ++ shown_name path.now

-- the exit status: 1 refused, 2 usage, 3 input or output
abbrev pub lab_exit_status : LabFault → ℕ
lab_exit_status NoSuchCommand = 2
lab_exit_status (BadNumber word) = 2
lab_exit_status (Geometry fault) = 1
lab_exit_status (NoneFits nearest) = 1
lab_exit_status RowRange = 1
lab_exit_status BitRange = 1
lab_exit_status PageSize = 1
lab_exit_status SectorRange = 1
lab_exit_status IsDump = 1
lab_exit_status Exists = 1
lab_exit_status NoFile = 1
lab_exit_status MapIsOut = 1
lab_exit_status MapIsDump = 1
lab_exit_status MapExists = 1
lab_exit_status MapNoFile = 1
lab_exit_status WrongLength = 1
lab_exit_status (DumpLength path) = 1
lab_exit_status (ReadingLength path) = 1
lab_exit_status OutOfMemory = 1
lab_exit_status (Certificate broken) = 1
lab_exit_status GeometryDiffers = 1
lab_exit_status (BadArrangement word) = 2
lab_exit_status (Unfit broken) = 1
lab_exit_status (ArrangedLength wanted found) = 1
lab_exit_status (Read path) = 3
lab_exit_status (Write path) = 3

-- the line as it is written
abbrev pub told_lab_line : LabFault → List ℕ
told_lab_line fault = lab_fault_line fault ++ (10 ∷ [])

-- The fault's line was written, and the status is the fault's. Or a write failed: the status is 3, and a beginning of the line
-- stands there, or nothing, and never all of it.
abbrev pub IsLabFaultTold : LabFault → (broke : Bool) → Option (List ℕ) → Option (List ℕ) → ℕ → Type 0
IsLabFaultTold fault broke before after status =
    ((status ≡ lab_exit_status fault) × Appends before after (told_lab_line fault))
    ⊎ ((status ≡ 3) × (broke ≡ true) × AppendsPart before after (told_lab_line fault))
