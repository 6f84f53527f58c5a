-- What the words of a command say of its geometry, and why a command ended before it was done.
use Rattle.std.specs.Prelude.{◌≡◌, ◌⊎◌, ℕ, Bool, true, false, if◌then◌else◌, List, codes, length, Option, IfSome, Result, Ok, Err}
use Rattle.std.specs.Borrow.{Bor}
use Rattle.std.specs.Io.KnownBytes.{Keeps}
use Rattle.page_layout.specs.declared.geometry.Geometry.{Geometry}
use Rattle.page_layout.specs.Faults.{HasNumbers, IsFirstFault}
use Rattle.request_stream.specs.Frames.{AppendsPart}
use Rattle.program_words.specs.declared.numbers.GeometryNumbers.{GeometryNumbers}
use Rattle.program_words.specs.Numbers.{SpellsGeometry}
use Rattle.lab_dump.specs.declared.make_fault.MakeFault.{MakeFault}
use Rattle.lab_dump.specs.declared.make_fault.MakeFault.TheVariants as make
use Rattle.lab_dump.specs.Scan.{image_bytes}
use Rattle.lab_commands.specs.declared.document.ReportForm.{ReportForm}
use Rattle.lab_commands.specs.declared.document.ReportForm.TheVariants.{Text, Json}
use Rattle.lab_commands.specs.declared.words.Showing.{Showing}
use Rattle.lab_commands.specs.declared.files.LabFileFault.TheVariants as file
use Rattle.lab_commands.specs.declared.files.Standing.{Standing}
use Rattle.lab_commands.specs.declared.files.Standing.TheVariants as standing
use Rattle.lab_commands.specs.declared.output.OutputFault.{OutputFault}
use Rattle.lab_commands.specs.declared.text.LabFault.{LabFault}
use Rattle.lab_commands.specs.declared.text.LabFault.TheVariants as fault
use Rattle.lab_commands.specs.Files.{IsFileOpened, StandsAtPath, Store, StoreAnswers}

-- ---- the geometry

-- the word writes the five numbers of this geometry
pub record IsGeometryAt (word : List ℕ) (g : Geometry) : Type 0 where
  pub numbers : GeometryNumbers
  pub spelled : SpellsGeometry word numbers
  pub valid : HasNumbers numbers.data_bytes numbers.spare_bytes numbers.pages numbers.blocks numbers.sectors g

-- it writes no five numbers, or some that are no geometry: then the first limit that they break is told
abbrev pub IsNoGeometry : List ℕ → LabFault → Type 0
IsNoGeometry word (fault.BadNumber told) = (told.now ≡ word) × ((numbers : GeometryNumbers) → ¬ SpellsGeometry word numbers)
IsNoGeometry word (fault.Geometry broken) =
    (numbers : GeometryNumbers) × SpellsGeometry word numbers × IsFirstFault numbers.data_bytes numbers.spare_bytes numbers.pages numbers.blocks numbers.sectors broken
IsNoGeometry word _ = ⊥

-- ---- the files

-- a call that names this path failed, for itself or for want of memory, and this is told where the file was to be read
abbrev pub IsUnread : StoreAnswers → List ℕ → LabFault → Type 0
IsUnread a path (fault.Read told) = (told.now ≡ path) × a.fails path file.Failed
IsUnread a path fault.OutOfMemory = a.fails path file.OutOfMemory
IsUnread a path _ = ⊥

-- the same where it was to be written
abbrev pub IsUnwritten : StoreAnswers → List ℕ → LabFault → Type 0
IsUnwritten a path (fault.Write told) = (told.now ≡ path) × a.fails path file.Failed
IsUnwritten a path fault.OutOfMemory = a.fails path file.OutOfMemory
IsUnwritten a path _ = ⊥

-- a file may be replaced: it is one, or a link to one, and that was asked for
abbrev pub IsReplaceable : Standing → Bool → Type 0
IsReplaceable what force = (what ≡ standing.File) × (force ≡ true)

-- what stands somewhere is not replaced: that was not asked for, or it is neither a file nor a link to one
abbrev pub IsKeptThere : Standing → Bool → LabFault → Type 0
IsKeptThere what force fault.Exists = force ≡ false
IsKeptThere what force fault.NoFile = (what ≡ standing.Other) × (force ≡ true)
IsKeptThere what force _ = ⊥

-- by what the files answered nothing stands at a path that is made of this dump, or a file that is not the dump and may be replaced
abbrev pub MayWrite : StoreAnswers → List ℕ → List ℕ → Bool → Type 0
MayWrite a dump path force = a.says path standing.Nothing ⊎ (a.says path standing.File × a.says_same dump path false × (force ≡ true))

-- something stands there: it is the dump, or is not to be replaced, or is no file; or they could not be asked
abbrev pub MayNotWrite : StoreAnswers → List ℕ → List ℕ → Bool → LabFault → Type 0
MayNotWrite a dump path force fault.IsDump = StandsAtPath a path × a.says_same dump path true
MayNotWrite a dump path force fault.Exists = StandsAtPath a path × a.says_same dump path false × (force ≡ false)
MayNotWrite a dump path force fault.NoFile = a.says path standing.Other × a.says_same dump path false × (force ≡ true)
MayNotWrite a dump path force told = IsUnwritten a path told ⊎ (StandsAtPath a path × IsUnread a dump told)

-- a file that was made did not get this name: a call failed, or another file has it meanwhile, and may not be replaced
abbrev pub IsUnplaced : StoreAnswers → List ℕ → Bool → LabFault → Type 0
IsUnplaced a path force fault.Exists = (force ≡ false) × a.taken path
IsUnplaced a path force told = IsUnwritten a path told

-- the same of a map
abbrev pub IsMapUnplaced : StoreAnswers → List ℕ → Bool → LabFault → Type 0
IsMapUnplaced a path force fault.MapExists = (force ≡ false) × a.taken path
IsMapUnplaced a path force told = IsUnwritten a path told

-- the file was opened for reading
pub record OpensForReading (a : StoreAnswers) (path : List ℕ) : Type 0 where
  pub known : Option (List ℕ)
  pub opened : IsFileOpened a path known

-- and its bytes, as far as they are known, are not as many as an image has
pub record OpensOther (a : StoreAnswers) (g : Geometry) (path : List ℕ) : Type 0 where
  pub known : Option (List ℕ)
  pub opened : IsFileOpened a path known
  pub other : IfSome known (λ bytes. ¬ (length bytes ≡ image_bytes g))

-- MEMORY WAS REFUSED BEFORE ANY FILE WAS OPENED to be read: how many were before, and how many in the end
abbrev pub IsUnroomed : (opens opened : Option ℕ) → LabFault → Type 0
IsUnroomed opens opened told = (told ≡ fault.OutOfMemory) × (opened ≡ opens)

-- Why a dump that was opened was not taken as a whole: a read failed, or it has another length. No want of memory is one.
abbrev pub IsDumpUntaken : StoreAnswers → Geometry → List ℕ → LabFault → Type 0
IsDumpUntaken a g path fault.WrongLength = OpensOther a g path
IsDumpUntaken a g path (fault.Read told) = (told.now ≡ path) × OpensForReading a path × a.reads_fail
IsDumpUntaken a g path _ = ⊥

-- a file beside that of a path was not made or not written whole, of a dump that was opened
abbrev pub IsUnfilled : StoreAnswers → List ℕ → List ℕ → LabFault → Type 0
IsUnfilled a dump path (fault.Write told) = (told.now ≡ path) × OpensForReading a dump × a.writes_fail
IsUnfilled a dump path _ = ⊥

-- the dump was not opened or not taken as a whole, or the file beside the path was not written or not put in its place
abbrev pub IsFileUnmade : StoreAnswers → Geometry → List ℕ → List ℕ → LabFault → Type 0
IsFileUnmade a g dump path told = IsUnread a dump told ⊎ IsDumpUntaken a g dump told ⊎ IsUnwritten a path told ⊎ IsUnfilled a dump path told

-- the dump was not opened, or the file beside the path was not made
abbrev pub IsFileUnbegun : StoreAnswers → List ℕ → List ℕ → LabFault → Type 0
IsFileUnbegun a dump path told = IsUnread a dump told ⊎ IsUnwritten a path told

-- how it is told that no file was made of a dump
abbrev pub unmade_as : MakeFault → Bor (List ℕ) → Bor (List ℕ) → LabFault
unmade_as make.WrongLength dump out = fault.WrongLength
unmade_as make.Source dump out = fault.Read dump
unmade_as make.Target dump out = fault.Write out

-- ---- what it leaves

-- no file was put in its place, none that was made stands beside it, and nothing was printed
pub record LeavesAll (before after : Option Store) (out printed : Option (List ℕ)) : Type 0 where
  pub kept : after ≡ before
  pub silent : Keeps out printed

-- how it is told that a document was not printed whole
abbrev pub TellsPrint : OutputFault → LabFault → Type 0
TellsPrint unwritten (fault.Write told) = told.now ≡ codes "-"
TellsPrint _ _ = ⊥

-- how a command ends, by whether its document was printed
abbrev pub EndsAsPrinted : {T S : Type 0} → Result T OutputFault → Result S LabFault → Type 0
EndsAsPrinted (Ok printed) (Ok done) = Unit {0}
EndsAsPrinted (Err unwritten) (Err told) = TellsPrint unwritten told
EndsAsPrinted _ _ = ⊥

-- standard output failed, so that of what was due a part stands there and never all
abbrev pub IsHalfPrinted : (broke : Bool) → Option (List ℕ) → Option (List ℕ) → List ℕ → LabFault → Type 0
IsHalfPrinted broke before after due (fault.Write told) = (told.now ≡ codes "-") × (broke ≡ true) × AppendsPart before after due
IsHalfPrinted broke before after due _ = ⊥

-- the form that was asked for
abbrev pub form_of_showing : Showing → ReportForm
form_of_showing showing = if showing.json then Json else Text
