-- THE DEVICE OF A STORE, WHICH IS OPENED ANEW WHERE THE STORE WAS FULL.
use Rattle.std.specs.Prelude.{◌≡◌, ◌≢◌, ◌⊎◌, ◌<◌, ◌≤◌, ◌*◌, ◌^◌, ◌&&◌, not, ℕ, Bool, true, false, List, [], length, replicate, Option, Some, None, Result, Ok, Err}
use Rattle.onfi_cycles.specs.Driver.{DriverState}
use Rattle.promises.specs.Step.{Command, Trim, Write}
use Rattle.file_die.specs.declared.die.SyncWhen.{SyncWhen}
use Rattle.file_die.specs.Die.{FileState}
use Rattle.file_die.specs.Store.{Held}
use Rattle.ftl_device.specs.declared.device.Device.{Device}
use Rattle.nbd_stream.specs.declared.fault.DiskFault.{DiskFault}
use Rattle.nbd_stream.specs.declared.fault.DiskFault.TheVariants as fault
use Rattle.nbd_stream.specs.declared.task.Task.TheVariants.{Read}
use Rattle.nbd_stream.specs.Disk.{Contents, PerformsTask, answer_from}
use Rattle.disk_server.specs.declared.opened.OpenStoreFault.{OpenStoreFault}
use Rattle.disk_server.specs.Disk.{ReadsAsDevice, AsksChange, AsksClear, AsksFlush, AsksRead, AsksTurn, contents_of, holds, takes_changes}
use Rattle.disk_server.specs.Opened.{IsUnstarted, SyncsWhen, bytes_of, flash_in, flash_as_opened, is_honest_in, view_in}

-- its device, where one is there; its sectors; what was next as its device stopped; whether it was opened anew; and how it is: with a cache of so many entries, with this share, and by when its die syncs its store
pub record Reopened (S : Type 0) : Type 0 where
  pub device : Option (Device (DriverState (FileState S)))
  pub size : ℕ
  pub count : ℕ
  pub next : ℕ
  pub reopened : Bool
  pub capacity : ℕ
  pub share : ℕ
  pub sync_when : SyncWhen

-- what is true of its parts: its sectors are those of the device that is there
pub record AreReopenedParts {S : Type 0} (size count capacity : ℕ) (device : Option (Device (DriverState (FileState S)))) : Type 0 where
  pub some : 0 < size
  pub bounded : count * size < 2 ^ 64
  pub least : 1 ≤ capacity
  pub most : capacity ≤ 65536
  pub sized : (d : Device (DriverState (FileState S))) → device ≡ Some d → d.engine.geometry.data_bytes ≡ size
  pub counted : (d : Device (DriverState (FileState S))) → device ≡ Some d → d.engine.geometry.sectors ≡ count

-- ---- what it shows

-- the bytes of the device that is there; where it is gone as many zeros stand for them
abbrev pub bytes_by : {S : Type 0} → (S → Held) → (honest : S → Bool) → (failed : S → ℕ) → (size count : ℕ) → Option (Device (DriverState (FileState S))) → List ℕ
bytes_by held honest failed size count None = replicate (count * size) 0
bytes_by held honest failed size count (Some d) = (contents_of (view_in held honest failed) d).bytes

-- ITS CONTENTS. What is there after a stop is what is there
abbrev pub contents_in : {S : Type 0} → (S → Held) → (honest : S → Bool) → (failed : S → ℕ) → Reopened S → Contents
contents_in held honest failed d = record { bytes = bytes_by held honest failed d.size d.count d.device; durable = bytes_by held honest failed d.size d.count d.device }

-- IT HOLDS WHAT IT WAS GIVEN: its device holds its array, and was never opened anew
abbrev pub holds_by : {S : Type 0} → (honest : S → Bool) → (reopened : Bool) → Option (Device (DriverState (FileState S))) → Bool
holds_by honest reopened None = false
holds_by honest reopened (Some d) = not reopened && holds (is_honest_in honest) d

abbrev pub holds_in : {S : Type 0} → (honest : S → Bool) → Reopened S → Bool
holds_in honest d = holds_by honest d.reopened d.device

-- the sequence of the page that is programmed next; where the device is gone, what was next as it stopped
abbrev pub next_by : {S : Type 0} → (last : ℕ) → Option (Device (DriverState (FileState S))) → ℕ
next_by last None = last
next_by last (Some d) = d.engine.next

abbrev pub next_to_program : {S : Type 0} → Reopened S → ℕ
next_to_program d = next_by d.next d.device

-- whether it takes changes: none that is gone does
abbrev pub takes_by : {S : Type 0} → Option (Device (DriverState (FileState S))) → Bool
takes_by None = false
takes_by (Some d) = takes_changes d

abbrev pub takes_in : {S : Type 0} → Reopened S → Bool
takes_in d = takes_by d.device

-- ---- how it is opened anew

-- its sectors, the entries of the cache and the share that it is opened anew with, and when its die syncs its store
pub record Terms : Type 0 where
  pub size : ℕ
  pub count : ℕ
  pub capacity : ℕ
  pub share : ℕ
  pub sync_when : SyncWhen

abbrev pub terms_of : {S : Type 0} → Reopened S → Terms
terms_of d = record { size = d.size; count = d.count; capacity = d.capacity; share = d.share; sync_when = d.sync_when }

-- so it is: with this device or none, on these terms, and opened anew or not
pub record HasDevice {S : Type 0} (terms : Terms) (reopened : Bool) (next : ℕ) (device : Option (Device (DriverState (FileState S)))) (d : Reopened S) : Type 0 where
  pub device_is : d.device ≡ device
  pub terms_are : terms_of d ≡ terms
  pub reopened_is : d.reopened ≡ reopened
  pub next_is : d.next ≡ next

-- A DEVICE THAT A STORE WAS OPENED WITH, on these terms: of a store that is honest it holds the array that the store's pages hold, byte by byte, the pages are as they were, and in its record nothing is at hand
pub record IsOpenedFrom {S : Type 0} (held : S → Held) (honest : S → Bool) (failed : S → ℕ) (terms : Terms) (store : S) (d : Device (DriverState (FileState S))) : Type 0 where
  pub as_honest : holds (is_honest_in honest) d ≡ honest store
  pub bytes : honest store ≡ true → (contents_of (view_in held honest failed) d).bytes ≡ bytes_of (held store)
  pub pages : honest store ≡ true → flash_in held d.engine.nand ≡ flash_as_opened (held store)
  pub clear : honest store ≡ true → d.engine.nand.told.at_hand ≡ []
  pub entries : d.engine.mapping.capacity ≡ terms.capacity
  pub share : d.engine.mapping.share ≡ terms.share
  pub syncs : SyncsWhen terms.sync_when d.engine.nand
  pub geometry : d.engine.geometry ≡ (held store).geometry

-- why a store was not: it has no disk, or one of other sectors
abbrev pub IsNotReopened : {S : Type 0} → (S → Held) → (honest : S → Bool) → (failed : S → ℕ) → Terms → S → Type 0
IsNotReopened {S} held honest failed terms store =
    ((why : OpenStoreFault) × (given : S) × IsUnstarted held honest failed store terms.capacity terms.share given why)
    ⊎ ((d : Device (DriverState (FileState S))) × IsOpenedFrom held honest failed terms store d × ((d.engine.geometry.data_bytes ≢ terms.size) ⊎ (d.engine.geometry.sectors ≢ terms.count)))

-- ---- a call

-- THE STORE WAS FULL, AND IS OPEN ANEW: from the pages that the device has left
pub record Reopens {S : Type 0} (held : S → Held) (honest full : S → Bool) (failed : S → ℕ) (terms : Terms) (left : Device (DriverState (FileState S))) (new : Reopened S) : Type 0 where
  pub was_full : full left.engine.nand.bus.store ≡ true
  pub device : Device (DriverState (FileState S))
  pub opened : IsOpenedFrom held honest failed terms left.engine.nand.bus.store device
  pub long : length (contents_of (view_in held honest failed) device).bytes ≡ terms.count * terms.size
  pub there : HasDevice terms true left.engine.next (Some device) new

-- THE DEVICE IS GONE: its store was not full, or was not opened
pub record IsGone {S : Type 0} (held : S → Held) (honest full : S → Bool) (failed : S → ℕ) (terms : Terms) (reopened : Bool) (left : Device (DriverState (FileState S))) (new : Reopened S) : Type 0 where
  pub why : (full left.engine.nand.bus.store ≡ false) ⊎ IsNotReopened held honest failed terms left.engine.nand.bus.store
  pub none : HasDevice terms reopened left.engine.next None new

-- WHAT A CALL OF THE DEVICE COMES TO, by its answer: it is passed on, and the device is there as the call has left it; or, where the call failed, the store was full and is open anew, which is told so, or the device is gone
abbrev pub SettlesCall : {S : Type 0} → (S → Held) → (honest full : S → Bool) → (failed : S → ℕ) → (told : DiskFault) → Terms → (reopened : Bool) → (next : ℕ) → (left : Device (DriverState (FileState S)))
    → (answer result : Result (Unit {0}) DiskFault) → (new : Reopened S) → Type 0
SettlesCall held honest full failed told terms reopened next left (Ok done) result new = (result ≡ Ok done) × HasDevice terms reopened next (Some left) new
SettlesCall held honest full failed told terms reopened next left (Err fault.ReadOnly) result new = (result ≡ Err fault.ReadOnly) × HasDevice terms reopened next (Some left) new
SettlesCall held honest full failed told terms reopened next left (Err fault.NoSpace) result new = (result ≡ Err fault.NoSpace) × HasDevice terms reopened next (Some left) new
SettlesCall held honest full failed told terms reopened next left (Err fault.Failed) result new =
    ((result ≡ Err told) × Reopens held honest full failed terms left new)
    ⊎ ((result ≡ Err fault.Failed) × IsGone held honest full failed terms reopened left new)

-- of a device that is gone nothing is asked
pub record AsksNone {S : Type 0} (old : Reopened S) (result : Result (Unit {0}) DiskFault) (new : Reopened S) : Type 0 where
  pub gone : old.device ≡ None
  pub told : result ≡ Err fault.Failed
  pub same : HasDevice (terms_of old) old.reopened old.next None new

-- IT IS ONE CALL OF THE DEVICE THAT IS THERE, as this says of such a one, and what that comes to
pub record AsksOne {S : Type 0} (held : S → Held) (honest full : S → Bool) (failed : S → ℕ) (asks : Device (DriverState (FileState S)) → Result (Unit {0}) DiskFault → Device (DriverState (FileState S)) → Type 0)
    (told : DiskFault) (old : Reopened S) (result : Result (Unit {0}) DiskFault) (new : Reopened S) : Type 0 where
  pub device : Device (DriverState (FileState S))
  pub was : old.device ≡ Some device
  pub left : Device (DriverState (FileState S))
  pub answer : Result (Unit {0}) DiskFault
  pub asked : asks device answer left
  pub settles : SettlesCall held honest full failed told (terms_of old) old.reopened old.next left answer result new

abbrev pub AsksDevice : {S : Type 0} → (S → Held) → (honest full : S → Bool) → (failed : S → ℕ) → (asks : Device (DriverState (FileState S)) → Result (Unit {0}) DiskFault → Device (DriverState (FileState S)) → Type 0)
    → (told : DiskFault) → (old : Reopened S) → (result : Result (Unit {0}) DiskFault) → (new : Reopened S) → Type 0
AsksDevice held honest full failed asks told old result new = AsksNone old result new ⊎ AsksOne held honest full failed asks told old result new

-- A READ is one of the device that is there, which stays, or nothing
pub record ReadsOne {S : Type 0} (reads : Device (DriverState (FileState S)) → Device (DriverState (FileState S)) → Type 0) (old new : Reopened S) : Type 0 where
  pub device : Device (DriverState (FileState S))
  pub was : old.device ≡ Some device
  pub left : Device (DriverState (FileState S))
  pub asked : reads device left
  pub there : HasDevice (terms_of old) old.reopened old.next (Some left) new

abbrev pub ReadsDevice : {S : Type 0} → (reads : Device (DriverState (FileState S)) → Device (DriverState (FileState S)) → Type 0) → (old new : Reopened S) → Type 0
ReadsDevice reads old new = ((old.device ≡ None) × HasDevice (terms_of old) old.reopened old.next None new) ⊎ ReadsOne reads old new

-- WHAT IS GIVEN OF A SECTOR: by the device that is there, opened anew or not, its bytes as such a one gives them, and its answer
abbrev pub ReopenedGivesSector : {S : Type 0} → (S → Held) → (honest : S → Bool) → (failed : S → ℕ) → (n : ℕ) → (old : Reopened S) → Result (Unit {0}) DiskFault → (bytes : List ℕ) → (new : Reopened S) → Type 0
ReopenedGivesSector {S} held honest failed n old result bytes new = (d : Device (DriverState (FileState S))) → old.device ≡ Some d → (left : Device (DriverState (FileState S))) × (new.device ≡ Some left)
    × PerformsTask (contents_of (view_in held honest failed)) (holds (is_honest_in honest)) (λ x. false) (Read (n * old.size) old.size) [] d (answer_from result bytes) left × ReadsAsDevice n d result bytes left

-- ---- the calls of the device over the die of a store

-- a change of a sector
abbrev pub changes_of : {S : Type 0} → (S → Held) → (honest : S → Bool) → (failed : S → ℕ) → (n : ℕ) → Command → Device (DriverState (FileState S)) → Result (Unit {0}) DiskFault → Device (DriverState (FileState S)) → Type 0
changes_of held honest failed n command = AsksChange (view_in held honest failed) n command

-- a sector to be cleared
abbrev pub clears_of : {S : Type 0} → (S → Held) → (honest : S → Bool) → (failed : S → ℕ) → (n : ℕ) → Device (DriverState (FileState S)) → Result (Unit {0}) DiskFault → Device (DriverState (FileState S)) → Type 0
clears_of held honest failed n = AsksClear (view_in held honest failed) n

-- SECTOR n IS SET: one write or trim of it, of the device that is there, and what it comes to
abbrev pub SetsInDevice : {S : Type 0} → (S → Held) → (honest full : S → Bool) → (failed : S → ℕ) → (n : ℕ) → (old : Reopened S) → Result (Unit {0}) DiskFault → (new : Reopened S) → Type 0
SetsInDevice held honest full failed n old result new =
    ((bytes : List ℕ) × AsksDevice held honest full failed (changes_of held honest failed n (Write n bytes)) fault.NoSpace old result new)
    ⊎ AsksDevice held honest full failed (changes_of held honest failed n (Trim n)) fault.NoSpace old result new

-- ONE CHANGE OF THE DEVICE THAT IS THERE, of any sector, and what it comes to
unfoldable pub changes_in : {S : Type 0} → (S → Held) → (honest full : S → Bool) → (failed : S → ℕ) → (old : Reopened S) → Result (Unit {0}) DiskFault → (new : Reopened S) → Type 0
changes_in held honest full failed old result new = (n : ℕ)
    × (((command : Command) × AsksDevice held honest full failed (changes_of held honest failed n command) fault.NoSpace old result new) ⊎ AsksDevice held honest full failed (clears_of held honest failed n) fault.NoSpace old result new)

-- a rest
abbrev pub rests_of : {S : Type 0} → (S → Held) → (honest : S → Bool) → (failed : S → ℕ) → Device (DriverState (FileState S)) → Result (Unit {0}) DiskFault → Device (DriverState (FileState S)) → Type 0
rests_of held honest failed = AsksTurn (view_in held honest failed)

-- a read: its die is asked for reads, and programs and erases nothing
abbrev pub reads_of : {S : Type 0} → (S → Held) → (honest : S → Bool) → (failed : S → ℕ) → Device (DriverState (FileState S)) → Device (DriverState (FileState S)) → Type 0
reads_of held honest failed = AsksRead (view_in held honest failed)

-- a flush
abbrev pub flushes_of : {S : Type 0} → (S → Held) → (honest : S → Bool) → (failed : S → ℕ) → Device (DriverState (FileState S)) → Result (Unit {0}) DiskFault → Device (DriverState (FileState S)) → Type 0
flushes_of held honest failed = AsksFlush (view_in held honest failed)

-- ---- laws. They are of any call of the device

-- ONCE IT IS GONE IT IS GONE FOR GOOD, and each call is answered so
abbrev pub GoneLaw : {S : Type 0} → (S → Held) → (honest full : S → Bool) → (failed : S → ℕ) → Type 0
GoneLaw {S} held honest full failed = (told : DiskFault) (old new : Reopened S) (result : Result (Unit {0}) DiskFault)
    → AsksDevice held honest full failed (λ d answer left. Unit {0}) told old result new → old.device ≡ None → (result ≡ Err fault.Failed) × (new.device ≡ None)

-- what it is opened anew with is what it began with
abbrev pub TermsLaw : {S : Type 0} → (S → Held) → (honest full : S → Bool) → (failed : S → ℕ) → Type 0
TermsLaw {S} held honest full failed = (told : DiskFault) (old new : Reopened S) (result : Result (Unit {0}) DiskFault)
    → AsksDevice held honest full failed (λ d answer left. Unit {0}) told old result new → terms_of new ≡ terms_of old

-- A CALL OPENED IT ANEW ONLY WHERE THE STORE WAS FULL, and was told so. What it holds then is the array of the pages that were left in the store, and nothing is at hand in its record; that this is what it was given is claimed no more
pub record IsAnew {S : Type 0} (held : S → Held) (honest full : S → Bool) (failed : S → ℕ) (told : DiskFault) (result : Result (Unit {0}) DiskFault) (new : Reopened S) : Type 0 where
  pub left : S
  pub was_full : full left ≡ true
  pub answered : result ≡ Err told
  pub unclaimed : holds_in honest new ≡ false
  pub bytes : honest left ≡ true → (contents_in held honest failed new).bytes ≡ bytes_of (held left)
  pub clear : honest left ≡ true → (d : Device (DriverState (FileState S))) → new.device ≡ Some d → d.engine.nand.told.at_hand ≡ []

abbrev pub AnewLaw : {S : Type 0} → (S → Held) → (honest full : S → Bool) → (failed : S → ℕ) → Type 0
AnewLaw {S} held honest full failed = (told : DiskFault) (old new : Reopened S) (result : Result (Unit {0}) DiskFault)
    → AsksDevice held honest full failed (λ d answer left. Unit {0}) told old result new → old.reopened ≡ false → new.reopened ≡ true → IsAnew held honest full failed told result new
