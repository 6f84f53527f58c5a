-- A DISK THAT IS READY TO BE SERVED.
use Rattle.std.specs.Prelude.{◌≡◌, ◌⊎◌, ℕ, Bool, true, false, not, ◌&&◌, List, [], Option, Some}
use Rattle.onfi_cycles.specs.Driver.{DriverState}
use Rattle.certificate.specs.Claim.{Claim}
use Rattle.file_die.specs.Store.{Held}
use Rattle.coded_store.specs.declared.coded.Mended.{Mended}
use Rattle.file_die.specs.Die.{FileState}
use Rattle.file_die.specs.declared.die.SyncWhen.{SyncWhen}
use Rattle.file_die.specs.declared.die.SyncWhen.TheVariants.{Always, Erases}
use Rattle.ftl_device.specs.declared.device.Device.{Device}
use Rattle.disk_recovery.specs.Listed.{IsUnkept, KeepsIfAny}
use Rattle.disk_recovery.specs.Recovered.{HoldsRecovered, IsOpenedLeft, IsUnrecovered}
use Rattle.disk_server.specs.declared.guarded.GuardedSectors.{GuardedSectors}
use Rattle.disk_server.specs.declared.mark.SyncMark.{SyncMark}
use Rattle.disk_server.specs.declared.opened.OpenStoreFault.{OpenStoreFault}
use Rattle.disk_server.specs.Disk.{contents_of, holds}
use Rattle.disk_server.specs.Reopened.{Reopened}
use Rattle.disk_server.specs.Opened.{SyncsWhen, bytes_of, flash_as_opened, flash_in, is_honest_in, view_in}
use Rattle.disk_server.specs.Stopped.{IsOpenedWith, IsUnopenedLater}
use Rattle.disk_server.specs.Synced.{after_sync}
use Rattle.disk_commands.specs.declared.files.Access.{Access}
use Rattle.disk_commands.specs.declared.mark.FoundMark.{FoundMark}
use Rattle.disk_commands.specs.declared.shape_text.DiskText.{DiskText}
use Rattle.disk_commands.specs.declared.text.DiskCommandFault.{DiskCommandFault}
use Rattle.disk_commands.specs.declared.words.DiskServeWords.{DiskServeWords}
use Rattle.disk_commands.specs.declared.text.DiskCommandFault.TheVariants as fault
use Rattle.disk_commands.specs.Anew.{most_stale}
use Rattle.disk_commands.specs.Damage.{IsLookedAt, IsUnlookedAt, wants_memory}
use Rattle.disk_commands.specs.Files.{DiskFileAnswers, Opened, with_mark_opened}
use Rattle.disk_commands.specs.Opening.{IsFileOrMemoryFault, IsUnkeptAt}
use Rattle.disk_commands.specs.ShapeText.{listed_text}
use Rattle.disk_commands.specs.Told.{HasPrintingFailed}

-- ---- what the words ask for

-- how its die is opened
abbrev pub access_of : DiskServeWords → Access
access_of words = record { writes = not words.read_only; wait = words.wait }

-- when it syncs its file: after each page, or about erases alone
abbrev pub sync_when : (always : Bool) → SyncWhen
sync_when true = Always
sync_when false = Erases

-- ---- the disk of a store that was looked at

-- ITS BYTES, by whether it is only read: those of the array that the store's pages hold; or of the pages that are left once what a crash left torn is taken away, by this mark
abbrev pub HoldsPages : (read_only : Bool) → (mark : ℕ) → (honest : Type 0) → Held → (bytes : List ℕ) → Type 0
HoldsPages true mark honest s bytes = honest → bytes ≡ bytes_of s
HoldsPages false mark honest s bytes = honest → HoldsRecovered mark s bytes

-- THE ENTRIES OF ITS CACHE, by whether it is only read: its own, or as many as it has stale sectors; else its own, once it was flushed where it had too many stale ones
abbrev pub HasCacheBy : {S : Type 0} → (read_only : Bool) → (S → Held) → (honest : S → Bool) → (failed : S → ℕ) → DiskText → (mark : ℕ) → S → (entries : ℕ) → Type 0
HasCacheBy true held honest failed told mark store entries = IsOpenedWith held honest failed false store told.shape.cache told.shape.share entries
HasCacheBy false held honest failed told mark store entries = IsOpenedLeft held honest failed mark store told.shape.cache told.shape.share entries

-- ITS PAGES, where it is only read: of a store that is honest they stay as they were
abbrev pub KeepsPages : {S : Type 0} → (read_only : Bool) → (S → Held) → (honest : S → Bool) → S → DriverState (FileState S) → Type 0
KeepsPages read_only held honest store nand = read_only ≡ true → honest store ≡ true → flash_in held nand ≡ flash_as_opened (held store)

-- THE DISK OF A STORE: of one that is honest it holds its array. Its device has the share that is told. Its die syncs the store as was asked. Where it is to be written and a mark counts, that is kept from then on, and all that the disk had programmed was synced
pub record IsDiskOf {S Y : Type 0} (held : S → Held) (honest : S → Bool) (failed : S → ℕ) (marked : Y → SyncMark) (read_only always : Bool) (told : DiskText) (found : FoundMark) (store : S)
    (d : Device (DriverState (FileState S))) (syncs : Y) : Type 0 where
  pub held_array : honest store ≡ true → holds (is_honest_in honest) d ≡ true
  pub bytes : HoldsPages read_only found.mark.synced (honest store ≡ true) (held store) (contents_of (view_in held honest failed) d).bytes
  pub pages : KeepsPages read_only held honest store d.engine.nand
  pub cache : HasCacheBy read_only held honest failed told found.mark.synced store d.engine.mapping.capacity
  pub share : d.engine.mapping.share ≡ told.shape.share
  pub syncs_when : SyncsWhen (sync_when always) d.engine.nand
  pub keeps : read_only ≡ false → told.marked ≡ true → marked syncs ≡ after_sync d.engine.next false found.mark

-- why there is none: by whether it was only to be read
abbrev pub IsNoDiskBy : {S : Type 0} → (read_only : Bool) → (S → Held) → (honest : S → Bool) → (failed : S → ℕ) → DiskText → FoundMark → S → OpenStoreFault → Type 0
IsNoDiskBy {S} true held honest failed told found store why = (given : S) × IsUnopenedLater held honest failed store told.shape.cache told.shape.share given why
IsNoDiskBy {S} false held honest failed told found store why = (given : S) × IsUnrecovered held honest failed store told.shape.cache told.shape.share found.mark.synced given why

-- THE PLACE OF THE LIST OF ITS LOST SECTORS, by whether it is only read: nothing is asked of it; or the list lasts, where any is lost
abbrev pub KeepsBy : {K : Type 0} → (read_only : Bool) → (kept : K → List Bool) → (lost : List Bool) → (place left : K) → Type 0
KeepsBy true kept lost place left = left ≡ place
KeepsBy false kept lost place left = KeepsIfAny kept lost place left

-- THE LIST WAS NOT KEPT, where it was to be written: it was asked for nothing more. Or it has no disk: where it was to be written the list lasts then
abbrev pub IsNoneOf : {S K : Type 0} → (S → Held) → (honest : S → Bool) → (failed : S → ℕ) → (kept : K → List Bool) → (unlisted : K → ℕ) → (path : List ℕ) → (read_only : Bool) → DiskText → FoundMark → S → (lost : List Bool)
    → (place left : K) → DiskCommandFault → Type 0
IsNoneOf held honest failed kept unlisted path read_only told found store lost place left (fault.WriteList at) = (read_only ≡ false) × (at.now ≡ path) × IsUnkept kept unlisted lost place left
IsNoneOf held honest failed kept unlisted path read_only told found store lost place left (fault.Open at why) =
    (at.now ≡ path) × (wants_memory why ≡ false) × KeepsBy read_only kept lost place left × IsNoDiskBy read_only held honest failed told found store why
IsNoneOf held honest failed kept unlisted path read_only told found store lost place left fault.OutOfMemory = KeepsBy read_only kept lost place left
IsNoneOf held honest failed kept unlisted path read_only told found store lost place left _ = ⊥

-- whether its mark is kept: it is to be written, and the text beside it says that a mark counts
abbrev pub keeps_mark : (read_only marked : Bool) → Bool
keeps_mark read_only marked = not read_only && marked

-- that mark was not kept
abbrev pub IsUnkeptBy : {Y : Type 0} → (keeps : Bool) → (missed : Y → ℕ) → DiskFileAnswers → (path : List ℕ) → DiskCommandFault → Type 0
IsUnkeptBy true missed a path why = IsUnkeptAt missed a path why
IsUnkeptBy false missed a path why = ⊥

-- it was to be written, of which this was found; else none was
abbrev pub MarksBy : (keeps : Bool) → (path : List ℕ) → FoundMark → (before after : Option (List Opened)) → Type 0
MarksBy true path found before after = after ≡ with_mark_opened before path found
MarksBy false path found before after = after ≡ before

-- ---- the disk at a path

-- THE DISK AT A PATH, whose lost sectors are guarded: those of the list beside it and of the pages of its store, as it was looked at; that store tells what was wrong with its pages. Where it is to be written, and any is lost, their list lasts;
-- else none was kept, for at the place of the list none was before. With the first one that is kept there the text beside the disk says that one stands there. The device of the store is there, and is opened anew with a cache that has room for all that may be stale, and with its share
pub record IsReadyAt {S Y K : Type 0} (held : S → Held) (honest : S → Bool) (failed : S → ℕ) (mended_in : S → Mended) (marked : Y → SyncMark) (kept : K → List Bool) (says : K → List ℕ) (a : DiskFileAnswers) (path : List ℕ)
    (read_only always : Bool) (told : DiskText) (mended : Mended) (disk : GuardedSectors (Reopened S) K) (syncs : Y) : Type 0 where
  pub found : FoundMark
  pub store : S
  pub certificate : Claim
  pub looked : IsLookedAt held honest a path told found store certificate disk.lost.items
  pub device : Device (DriverState (FileState S))
  pub device_is : disk.sectors.device ≡ Some device
  pub not_reopened : disk.sectors.reopened ≡ false
  pub room : disk.sectors.capacity ≡ most_stale told.shape
  pub share : disk.sectors.share ≡ told.shape.share
  pub again : disk.sectors.sync_when ≡ sync_when always
  pub of : IsDiskOf held honest failed marked read_only always told found store device syncs
  pub mended_is : mended ≡ mended_in store
  pub none_failed : disk.failed ≡ false
  pub place : K
  pub none_kept : kept place ≡ []
  pub says_listed : says place ≡ listed_text told.shape
  pub lasts : KeepsBy read_only kept disk.lost.items place disk.keeper

-- a disk that was looked at was not opened, or its mark not kept
pub record IsNotOpened {S Y K : Type 0} (held : S → Held) (honest : S → Bool) (failed : S → ℕ) (missed : Y → ℕ) (kept : K → List Bool) (says : K → List ℕ) (unlisted : K → ℕ) (a : DiskFileAnswers) (path : List ℕ)
    (read_only : Bool) (why : DiskCommandFault) : Type 0 where
  pub told : DiskText
  pub found : FoundMark
  pub store : S
  pub certificate : Claim
  pub lost : List Bool
  pub looked : IsLookedAt held honest a path told found store certificate lost
  pub place : K
  pub none_kept : kept place ≡ []
  pub says_listed : says place ≡ listed_text told.shape
  pub left : K
  pub unopened : IsNoneOf held honest failed kept unlisted path read_only told found store lost place left why ⊎ IsUnkeptBy (keeps_mark read_only told.marked) missed a path why

-- why it is not ready: it was not looked at, there is no place for the list of its lost sectors, it was not opened, or they were not named
abbrev pub IsUnreadyAt : {S Y K : Type 0} → (S → Held) → (honest : S → Bool) → (failed : S → ℕ) → (missed : Y → ℕ) → (kept : K → List Bool) → (says : K → List ℕ) → (unlisted : K → ℕ) → DiskFileAnswers → (path : List ℕ) → (read_only : Bool)
    → DiskCommandFault → Type 0
IsUnreadyAt held honest failed missed kept says unlisted a path read_only why =
    IsUnlookedAt held honest failed a path why
    ⊎ (IsFileOrMemoryFault a path why
    ⊎ (IsNotOpened held honest failed missed kept says unlisted a path read_only why
    ⊎ HasPrintingFailed why))
