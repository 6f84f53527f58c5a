-- The disk at a path: its shape, its die, and how a fault of its files is told.
use Rattle.std.specs.Prelude.{◌≡◌, ◌⊎◌, ◌*◌, ℕ, Bool, true, false, List, Option}
use Rattle.std.specs.Borrow.{Bor}
use Rattle.page_layout.specs.declared.geometry.Geometry.{Geometry}
use Rattle.page_layout.specs.Geometry.{page_bytes, row_count}
use Rattle.page_layout.specs.Counter.{HasRisen}
use Rattle.coded_store.specs.Reading.{coded_bytes}
use Rattle.disk_commands.specs.declared.shapes.Code.{Code}
use Rattle.disk_commands.specs.declared.shapes.Code.TheVariants.{Plain, Hamming}
use Rattle.disk_commands.specs.declared.shapes.DiskShape.{DiskShape}
use Rattle.file_die.specs.Store.{Held}
use Rattle.disk_commands.specs.declared.shape_text.DiskText.{DiskText}
use Rattle.disk_commands.specs.declared.mark.FoundMark.{FoundMark}
use Rattle.disk_commands.specs.Mark.{IsMarkRead, none_found}
use Rattle.disk_commands.specs.ShapeText.{IsNoShape, IsShapeText}
use Rattle.disk_commands.specs.declared.files.DiskFileFault.{DiskFileFault}
use Rattle.disk_commands.specs.declared.files.DiskFileFault.TheVariants as file
use Rattle.disk_commands.specs.declared.text.DiskCommandFault.{DiskCommandFault}
use Rattle.disk_commands.specs.declared.text.DiskCommandFault.TheVariants as fault
use Rattle.disk_commands.specs.declared.files.Access.{Access}
use Rattle.disk_commands.specs.Files.{DiskFileAnswers, Opened, OpensOnce, with_mark_opened, with_opened}

-- ---- its bytes

-- those of all pages of its die, with their codes where it has a code
abbrev pub page_in_file : Code → Geometry → ℕ
page_in_file Plain g = page_bytes g
page_in_file Hamming g = coded_bytes g

abbrev pub file_bytes : DiskShape → ℕ
file_bytes s = row_count s.geometry * page_in_file s.code s.geometry

-- ---- a fault

-- how a fault of a file is told, of a path that so many bytes were wanted of
abbrev pub told_at : DiskFileFault → Bor (List ℕ) → (wanted : ℕ) → DiskCommandFault
told_at file.Read path wanted = fault.Read path
told_at file.Write path wanted = fault.Write path
told_at file.InUse path wanted = fault.InUse path
told_at file.Exists path wanted = fault.Exists path
told_at (file.Length found) path wanted = fault.Length path found wanted
told_at file.OutOfMemory path wanted = fault.OutOfMemory

-- and one of a copy of a dump
abbrev pub told_of_copy : DiskFileFault → (path dump : Bor (List ℕ)) → (wanted : ℕ) → DiskCommandFault
told_of_copy file.Read path dump wanted = fault.Read dump
told_of_copy file.Write path dump wanted = fault.Write path
told_of_copy file.InUse path dump wanted = fault.InUse path
told_of_copy file.Exists path dump wanted = fault.Exists path
told_of_copy (file.Length found) path dump wanted = fault.Length dump found wanted
told_of_copy file.OutOfMemory path dump wanted = fault.OutOfMemory

-- a call that names this path failed, and that is told of the path
abbrev pub IsFaultAt : DiskFileAnswers → (path : List ℕ) → (wanted : ℕ) → DiskCommandFault → Type 0
IsFaultAt a path wanted (fault.Read told) = (told.now ≡ path) × a.fails path file.Read
IsFaultAt a path wanted (fault.Write told) = (told.now ≡ path) × a.fails path file.Write
IsFaultAt a path wanted (fault.InUse told) = (told.now ≡ path) × a.fails path file.InUse
IsFaultAt a path wanted (fault.Exists told) = (told.now ≡ path) × a.fails path file.Exists
IsFaultAt a path wanted (fault.Length told found due) = (told.now ≡ path) × (due ≡ wanted) × a.fails path (file.Length found)
IsFaultAt a path wanted fault.OutOfMemory = a.fails path file.OutOfMemory
IsFaultAt a path wanted _ = ⊥

-- a file was not kept there: the files failed, or a growth was refused
abbrev pub IsFileOrMemoryFault : DiskFileAnswers → (path : List ℕ) → DiskCommandFault → Type 0
IsFileOrMemoryFault a path fault.OutOfMemory = Unit {0}
IsFileOrMemoryFault a path told = IsFaultAt a path 0 told

-- a copy failed, for the dump or for what was made
abbrev pub IsCopyFault : DiskFileAnswers → (path dump : List ℕ) → (wanted : ℕ) → DiskCommandFault → Type 0
IsCopyFault a path dump wanted told = IsFaultAt a dump wanted told ⊎ IsFaultAt a path wanted told

-- something stands at the path, or they could not be asked
abbrev pub IsNotFree : DiskFileAnswers → List ℕ → DiskCommandFault → Type 0
IsNotFree a path (fault.Exists told) = (told.now ≡ path) × (a.says_there path true ⊎ a.fails path file.Exists)
IsNotFree a path told = IsFaultAt a path 0 told

-- ---- its shape

-- the file beside the disk tells it
pub record IsTextAt (a : DiskFileAnswers) (path : List ℕ) (told : DiskText) : Type 0 where
  pub text : List ℕ
  pub tells : a.tells path text
  pub says : IsShapeText text told

-- the die was not locked, that file could not be read, or it tells none
abbrev pub IsShapeFault : DiskFileAnswers → List ℕ → DiskCommandFault → Type 0
IsShapeFault a path (fault.Shape told why) = (told.now ≡ path) × ((text : List ℕ) × a.tells path text × IsNoShape text why)
IsShapeFault a path told = IsFaultAt a path 0 told

-- ---- its mark

-- WHAT IS FOUND OF THE MARK beside a disk, where one counts: what its file tells
abbrev pub IsMarkAt : DiskFileAnswers → (path : List ℕ) → (marked : Bool) → FoundMark → Type 0
IsMarkAt a path true found = (text : Option (List ℕ)) × a.marks path text × IsMarkRead text found
IsMarkAt a path false found = found ≡ none_found

-- ---- its die

-- THE STORE OF THE DISK AT A PATH: it holds what the file of the path does, with the geometry of the shape that is told beside it
pub record IsStoreAt {S : Type 0} (held : S → Held) (honest : S → Bool) (a : DiskFileAnswers) (path : List ℕ) (told : DiskText) (store : S) : Type 0 where
  pub text : IsTextAt a path told
  pub holds : a.holds path (held store)
  pub geometry : (held store).geometry ≡ told.shape.geometry
  pub is_honest : honest store ≡ a.honest

-- the file of the die was not opened: it has another number of bytes than the pages of the shape, or it failed
abbrev pub IsNoFile : DiskFileAnswers → List ℕ → DiskCommandFault → Type 0
IsNoFile a path told = (text : DiskText) × IsTextAt a path text × IsFaultAt a path (file_bytes text.shape) told

-- the files of the disk at a path were not opened: for its lock or its shape, or for its die
abbrev pub IsNotAt : DiskFileAnswers → List ℕ → DiskCommandFault → Type 0
IsNotAt a path told = IsShapeFault a path told ⊎ IsNoFile a path told

-- ---- a disk that is to be written

-- THE DIE AT A PATH WAS TO BE OPENED, once; and where it is to be written, the mark beside it behind it, or not. It was only where the text beside the disk says that a mark counts, and in the slot beside the one in which its file has it
abbrev pub OpensMarkedIf : (writes : Bool) → DiskFileAnswers → (path : List ℕ) → Access → (before after : Option (List Opened)) → Type 0
OpensMarkedIf true a path access before after =
    OpensOnce path access before after
    ⊎ ((told : DiskText) × IsTextAt a path told × (told.marked ≡ true) × ((found : FoundMark) × IsMarkAt a path true found × (after ≡ with_mark_opened (with_opened before path access) path found)))
OpensMarkedIf false a path access before after = OpensOnce path access before after

abbrev pub OpensMarked : DiskFileAnswers → (path : List ℕ) → Access → (before after : Option (List Opened)) → Type 0
OpensMarked a path access before after = OpensMarkedIf access.writes a path access before after

-- its mark was not kept: a sync failed, and that was counted
abbrev pub IsUnmarkedAt : {Y : Type 0} → (missed : Y → ℕ) → List ℕ → DiskCommandFault → Type 0
IsUnmarkedAt {Y} missed path (fault.Device told) = (told.now ≡ path) × ((old new : Y) × HasRisen (missed old) (missed new))
IsUnmarkedAt missed path _ = ⊥

-- or its file was not opened or made
abbrev pub IsUnkeptAt : {Y : Type 0} → (missed : Y → ℕ) → DiskFileAnswers → List ℕ → DiskCommandFault → Type 0
IsUnkeptAt missed a path told = IsFaultAt a path 0 told ⊎ IsUnmarkedAt missed path told
