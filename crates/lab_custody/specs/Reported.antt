-- A command whose run is told in a report.
use Rattle.std.specs.Prelude.{◌≡◌, ◌≢◌, ◌⊎◌, ◌<◌, ℕ, true, false, All, List, [], ◌∷◌, codes, length, get_or, take, Option, Some, IfSome}
use Rattle.program_words.specs.Grammar.{version_text}
use Rattle.lab_commands.specs.declared.files.LabFileFault.TheVariants as file
use Rattle.lab_commands.specs.declared.files.Standing.TheVariants as standing
use Rattle.lab_commands.specs.declared.text.LabFault.TheVariants as lab
use Rattle.lab_commands.specs.Files.{IsAsPut, IsFileOpened, StandsAtPath, Store, StoreAnswers}
use Rattle.lab_report.specs.Note.{Note, Told}
use Rattle.lab_custody.specs.declared.fault.CustodyFault.{CustodyFault}
use Rattle.lab_custody.specs.declared.fault.CustodyFault.TheVariants as fault
use Rattle.lab_custody.specs.Verify.{IsStill, IsNotReadWhole}

-- ---- whether it may be written

-- a file that is to be written was asked about, and that failed
abbrev pub HasAskingFailed : StoreAnswers → List ℕ → CustodyFault → Type 0
HasAskingFailed a path (fault.Lab (lab.Write told)) = (told.now ≡ path) × a.fails path file.Failed
HasAskingFailed a path (fault.Lab lab.OutOfMemory) = a.fails path file.OutOfMemory
HasAskingFailed a path _ = ⊥

-- of the files that the command writes the first ones are others, of which there are so many
abbrev pub AreOtherFilesBelow : StoreAnswers → List ℕ → List (List ℕ) → ℕ → Type 0
AreOtherFilesBelow a path wrote n = (i : ℕ) → i < n → a.says_same (get_or wrote i []) path false

-- nothing stands at its path, and it is none of the files that the command writes
pub record MayReport (a : StoreAnswers) (path : List ℕ) (wrote : List (List ℕ)) : Type 0 where
  pub free : a.says path standing.Nothing
  pub others : AreOtherFilesBelow a path wrote (length wrote)

-- something stands there; or nothing does, and it is one of them; or they could not be asked, one after another
abbrev pub MayNotReport : StoreAnswers → List ℕ → List (List ℕ) → CustodyFault → Type 0
MayNotReport a path wrote fault.ReportExists = StandsAtPath a path
MayNotReport a path wrote fault.ReportIsOut = a.says path standing.Nothing × ((i : ℕ) × (i < length wrote) × AreOtherFilesBelow a path wrote i × a.says_same (get_or wrote i []) path true)
MayNotReport a path wrote told = HasAskingFailed a path told ⊎ (a.says path standing.Nothing × ((i : ℕ) × (i < length wrote) × AreOtherFilesBelow a path wrote i × HasAskingFailed a (get_or wrote i []) told))

-- ---- what it says of files

-- A FILE OF THIS PATH WAS READ WHOLE, and where its bytes are known the note is of these: its name, how many they are and their SHA-256. Of a file that was put
-- in its place before these are the bytes that were put there
pub record IsFileNoted (a : StoreAnswers) (kept : Option Store) (path : List ℕ) (note : Note) : Type 0 where
  pub name_is : note.name ≡ path
  pub known : Option (List ℕ)
  pub opened : IsFileOpened a path known
  pub as_put : IsAsPut kept path known
  pub content : IfSome known (IsStill note)

-- each of these files, one after another
abbrev pub AreNoted : StoreAnswers → Option Store → List (List ℕ) → List Note → Type 0
AreNoted a kept [] [] = Unit {0}
AreNoted a kept [] (note ∷ notes) = ⊥
AreNoted a kept (path ∷ paths) [] = ⊥
AreNoted a kept (path ∷ paths) (note ∷ notes) = IsFileNoted a kept path note × AreNoted a kept paths notes

-- one was not read whole, or the files had no memory to open it
abbrev pub IsUnnoted : StoreAnswers → List ℕ → CustodyFault → Type 0
IsUnnoted a path (fault.Lab (lab.Read told)) = (told.now ≡ path) × IsNotReadWhole a path
IsUnnoted a path (fault.Lab lab.OutOfMemory) = a.fails path file.OutOfMemory
IsUnnoted a path _ = ⊥

-- THE FIRST OF THESE FILES that was not: each one before it was noted
abbrev pub IsSomeUnnoted : StoreAnswers → Option Store → List (List ℕ) → CustodyFault → Type 0
IsSomeUnnoted a kept paths told = (i : ℕ) × (i < length paths) × ((notes : List Note) × AreNoted a kept (take i paths) notes) × IsUnnoted a (get_or paths i []) told

-- ---- the report

-- what it says of a run of these words, by what is said of its files
abbrev pub told_of_run : List (List ℕ) → List Note → List Note → Told
told_of_run words read wrote = record { program = codes "nandlab"; version = version_text; words = words; read = read; wrote = wrote }

-- it was not put in its place: a call failed, memory was refused, or another file has its name meanwhile
abbrev pub IsReportUnstored : StoreAnswers → List ℕ → CustodyFault → Type 0
IsReportUnstored a path fault.ReportExists = a.taken path
IsReportUnstored a path (fault.Lab (lab.Write told)) = (told.now ≡ path) × a.fails path file.Failed
IsReportUnstored a path (fault.Lab lab.OutOfMemory) = Unit {0}
IsReportUnstored a path _ = ⊥
