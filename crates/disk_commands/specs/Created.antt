-- A disk that was created.
use Rattle.std.specs.Prelude.{◌≡◌, ◌⊎◌, ◌<◌, ◌*◌, ℕ, Bool, true, false, List, length, Option}
use Rattle.std.specs.Borrow.{Bor}
use Rattle.page_layout.specs.declared.geometry.Geometry.{Geometry}
use Rattle.page_layout.specs.Geometry.{page_bytes, row_count}
use Rattle.page_layout.specs.Counter.{HasRisen}
use Rattle.file_die.specs.Store.{Held, blank}
use Rattle.image_check.specs.declared.refusal.Refusal.TheVariants.{TooStale}
use Rattle.certificate.specs.Claim.{Claim}
use Rattle.mount.specs.Mounted.{IsMounted, Refuses}
use Rattle.disk_commands.specs.declared.shapes.DiskShape.{DiskShape}
use Rattle.disk_commands.specs.ShapeText.{shape_text}
use Rattle.disk_commands.specs.declared.words.CreateWords.{CreateWords}
use Rattle.disk_commands.specs.declared.words.MakeWords.{MakeWords}
use Rattle.disk_commands.specs.declared.words.MakeWords.TheVariants as make
use Rattle.disk_server.specs.declared.opened.OpenStoreFault.{OpenStoreFault}
use Rattle.disk_server.specs.declared.opened.OpenStoreFault.TheVariants as open_store
use Rattle.disk_server.specs.declared.format.CreateFault.{CreateFault}
use Rattle.disk_server.specs.declared.format.CreateFault.TheVariants as create
use Rattle.disk_server.specs.Made.{IsDiskMade, IsDiskUnmade}
use Rattle.disk_server.specs.Opened.{IsStoreUnopened}
use Rattle.disk_commands.specs.declared.text.DiskCommandFault.{DiskCommandFault}
use Rattle.disk_commands.specs.declared.files.DiskFileFault.TheVariants as file
use Rattle.disk_commands.specs.declared.text.DiskCommandFault.TheVariants as fault
use Rattle.disk_commands.specs.BadBlocks.{AreBadAsked, AreNoneAsked, HasMarks, is_copied}
use Rattle.disk_commands.specs.Asked.{IsNoShapeAsked, IsShapeAsked}
use Rattle.disk_commands.specs.Damage.{wants_memory}
use Rattle.disk_commands.specs.Files.{DiskFileAnswers, Kept, with_kept_disk}
use Rattle.disk_commands.specs.Opening.{IsCopyFault, IsFaultAt, IsNotFree, IsFileOrMemoryFault}

-- ---- the die

-- erased pages, with the marks of the blocks that are bad from the start, became those of a die that is formatted for the share, and all of them last
pub record IsNewDie (shape : DiskShape) (bad : List ℕ) (s : Held) : Type 0 where
  pub first : Held
  pub marks : HasMarks shape.geometry bad first
  pub good : ℕ
  pub made : IsDiskMade shape.share first s good

-- A STORE WHOSE PAGES MOUNT with a cache of so many entries; or too many of its sectors are stale for that, and a server makes room. They stay
pub record Mounts (s : Held) (capacity : ℕ) (t : Held) : Type 0 where
  pub geometry : t.geometry ≡ s.geometry
  pub pages : t.pages ≡ s.pages
  pub mounts : ((c : Claim) × IsMounted s.geometry capacity s.pages c) ⊎ ((stale asked : ℕ) × Refuses s.geometry capacity s.pages (TooStale stale asked))

-- the pages of a dump are such
pub record IsDieOf (a : DiskFileAnswers) (dump : List ℕ) (shape : DiskShape) (s : Held) : Type 0 where
  pub first : Held
  pub holds : a.holds dump first
  pub geometry : first.geometry ≡ shape.geometry
  pub mounts : Mounts first shape.cache s

-- what was asked for
abbrev pub IsDieAskedFor : DiskFileAnswers → MakeWords → DiskShape → (bad : List ℕ) → Held → Type 0
IsDieAskedFor a (make.Size word) shape bad s = IsNewDie shape bad s
IsDieAskedFor a (make.Geometry word) shape bad s = IsNewDie shape bad s
IsDieAskedFor a (make.Dump word from) shape bad s = IsDieOf a from.now shape s

-- ---- the disk

-- THE DISK AT A PATH: its die is what was asked for, and the text beside it tells its shape
pub record HasCreated {S : Type 0} (held : S → Held) (honest : S → Bool) (a : DiskFileAnswers) (words : CreateWords) (before after : Option (List Kept)) : Type 0 where
  pub shape : DiskShape
  pub asked : IsShapeAsked words shape
  pub bad : List ℕ
  pub bad_asked : AreBadAsked (is_copied words.make) words.bad shape.geometry bad
  pub free : a.says_there words.disk.now false
  pub store : S
  pub die : honest store ≡ true → IsDieAskedFor a words.make shape bad (held store)
  pub is_honest : honest store ≡ a.honest
  pub kept : after ≡ with_kept_disk before (record { path = words.disk.now; held = held store; text = shape_text shape })

-- ---- why there is none

-- how it is told that a die was not formatted
abbrev pub unformatted : Bor (List ℕ) → CreateFault → DiskCommandFault
unformatted path (create.Open open_store.OutOfMemory) = fault.OutOfMemory
unformatted path why = fault.Create path why

-- the blocks that are bad from the start were not marked: a put failed
abbrev pub IsUnmarked : {S : Type 0} → (S → Held) → (honest : S → Bool) → (failed : S → ℕ) → DiskFileAnswers → Geometry → (bad : List ℕ) → Type 0
IsUnmarked {S} held honest failed a g bad =
    (0 < length bad) × ((store left : S) × (honest store ≡ a.honest) × (honest store ≡ true → held store ≡ blank g) × HasRisen (failed store) (failed left))

-- erased pages were not marked or not formatted
abbrev pub IsNewDieUnformatted : {S : Type 0} → (S → Held) → (honest : S → Bool) → (failed : S → ℕ) → DiskFileAnswers → (path : List ℕ) → DiskShape → (bad : List ℕ) → DiskCommandFault → Type 0
IsNewDieUnformatted {S} held honest failed a path shape bad (fault.Create told why) =
    (told.now ≡ path) × ((store given : S) × (honest store ≡ a.honest) × (honest store ≡ true → HasMarks shape.geometry bad (held store)) × IsDiskUnmade held honest failed shape.share store given why)
IsNewDieUnformatted held honest failed a path shape bad (fault.Write told) = (told.now ≡ path) × (a.fails path file.Write ⊎ IsUnmarked held honest failed a shape.geometry bad)
IsNewDieUnformatted held honest failed a path shape bad fault.OutOfMemory = Unit {0}
IsNewDieUnformatted held honest failed a path shape bad told = IsFaultAt a path 0 told

-- whether too many of its sectors are stale for the cache: a server makes room for them, so that is no fault of a dump
abbrev pub is_too_stale : OpenStoreFault → Bool
is_too_stale (open_store.Mount (TooStale stale asked)) = true
is_too_stale why = false

-- a dump was not copied, or is no die with a device on it
abbrev pub IsNoDump : {S : Type 0} → (S → Held) → (honest : S → Bool) → (failed : S → ℕ) → DiskFileAnswers → (path dump : List ℕ) → DiskShape → DiskCommandFault → Type 0
IsNoDump {S} held honest failed a path dump shape (fault.Open told why) =
    (told.now ≡ dump) × (wants_memory why ≡ false) × (is_too_stale why ≡ false) × ((store given : S) × a.holds dump (held store) × ((held store).geometry ≡ shape.geometry) × IsStoreUnopened held honest failed store shape.cache given why)
IsNoDump held honest failed a path dump shape fault.OutOfMemory = Unit {0}
IsNoDump held honest failed a path dump shape told = IsCopyFault a path dump (row_count shape.geometry * page_bytes shape.geometry) told

abbrev pub IsUnmadeFor : {S : Type 0} → (S → Held) → (honest : S → Bool) → (failed : S → ℕ) → DiskFileAnswers → (path : List ℕ) → MakeWords → DiskShape → (bad : List ℕ) → DiskCommandFault → Type 0
IsUnmadeFor held honest failed a path (make.Size word) shape bad told = IsNewDieUnformatted held honest failed a path shape bad told
IsUnmadeFor held honest failed a path (make.Geometry word) shape bad told = IsNewDieUnformatted held honest failed a path shape bad told
IsUnmadeFor held honest failed a path (make.Dump word from) shape bad told = IsNoDump held honest failed a path from.now shape told

-- the first of this order: no shape was asked for, or no bad blocks of it, something stands there, the die was not made, it was not put in its place
abbrev pub IsUncreated : {S : Type 0} → (S → Held) → (honest : S → Bool) → (failed : S → ℕ) → DiskFileAnswers → CreateWords → DiskCommandFault → Type 0
IsUncreated held honest failed a words told =
    IsNoShapeAsked words told
    ⊎ ((shape : DiskShape) × IsShapeAsked words shape × (AreNoneAsked (is_copied words.make) words.bad shape.geometry told
    ⊎ ((bad : List ℕ) × AreBadAsked (is_copied words.make) words.bad shape.geometry bad × (IsNotFree a words.disk.now told
    ⊎ (a.says_there words.disk.now false × (IsUnmadeFor held honest failed a words.disk.now words.make shape bad told ⊎ IsFileOrMemoryFault a words.disk.now told))))))
