-- WHAT IS FOUND OF A DISK where its server is killed, or its die stopped, inside a call of its device.
use Rattle.std.specs.Prelude.{◌≡◌, ◌⊎◌, ◌+◌, ◌≤◌, ℕ, List, ◌++◌, ◌∷◌, Option, Some, IsSome, Result, Ok, true}
use Rattle.page_layout.specs.View.{View}
use Rattle.page_layout.specs.Page.{Image, IsImage}
use Rattle.page_layout.specs.Array.{array_of}
use Rattle.page_layout.specs.Flash.{Operation}
use Rattle.page_layout.specs.Recording.{Recording, Records, image_after_all}
use Rattle.promises.specs.Step.{Command}
use Rattle.promises.specs.Stop.{MayLeave, Tears}
use Rattle.image_check.specs.Mountable.{IsMountable}
use Rattle.onfi_cycles.specs.Driver.{DriverState}
use Rattle.file_die.specs.Die.{FileState}
use Rattle.file_die.specs.Store.{Held}
use Rattle.nbd_stream.specs.declared.fault.DiskFault.{DiskFault}
use Rattle.collection.specs.Safe.{ram}
use Rattle.collection.specs.Stops.{room_of}
use Rattle.ftl_device.specs.declared.device.Device.{Device}
use Rattle.disk_server.specs.Flat.{flat}
use Rattle.disk_server.specs.Disk.{AsksChange, AsksFlush, AsksTurn, IsDisk, contents_of, holds}
use Rattle.disk_server.specs.Opened.{flash_in}

-- THE PAGES AT SOME MOMENT OF A CALL, by the operations that the record of its die gained in it: those from before it, cut short before one of these, in one, or after the last
pub record AreFoundIn {N : Type 0} (view : View N) (old new : Device N) (found : Image) : Type 0 where
  pub told : IsSome (view.recorded new.engine.nand)
  pub log : List Operation
  pub records : Records (view.recorded old.engine.nand) log (view.recorded new.engine.nand)
  pub left : MayLeave old.engine.geometry (view.flash old.engine.nand).image log found

-- they mount, with as many entries as the device leaves sectors stale at most, where a cache may have so many
abbrev pub MountsFor : {N : Type 0} → Device N → Image → Type 0
MountsFor d found = room_of (ram d.engine) ≤ 65536 → IsMountable d.engine.geometry (room_of (ram d.engine)) found

-- the bytes of the disk that is found
abbrev pub bytes_found : {N : Type 0} → Device N → Image → List ℕ
bytes_found d found = flat (array_of d.engine.geometry found)

-- a call of the disk, after which its device still holds its array
pub record HoldsThrough {N : Type 0} (view : View N) (old new : Device N) : Type 0 where
  pub was : IsDisk view old
  pub is : IsDisk view new
  pub held : holds view.honest old ≡ true
  pub holds_on : holds view.honest new ≡ true

-- ---- laws

-- A CHANGE IS THERE WHOLE OR NOT AT ALL: killed at any moment of it, the disk mounts, with its bytes from before the change; or, of one that was done, from after it
abbrev pub KilledChangeLaw : {N : Type 0} → (view : View N) → Type 0
KilledChangeLaw {N} view = (old new : Device N) (n : ℕ) (command : Command) (result : Result (Unit {0}) DiskFault) (found : Image) → HoldsThrough view old new
    → AsksChange view n command old result new → AreFoundIn view old new found
    → MountsFor old found
    × ((bytes_found old found ≡ (contents_of view old).bytes) ⊎ ((result ≡ Ok tt) × (bytes_found old found ≡ (contents_of view new).bytes)))

-- A FLUSH AND A TURN LOSE NOTHING: killed at any moment of one, the disk mounts, with its bytes
abbrev pub KilledFlushLaw : {N : Type 0} → (view : View N) → Type 0
KilledFlushLaw {N} view = (old new : Device N) (result : Result (Unit {0}) DiskFault) (found : Image) → HoldsThrough view old new
    → AsksFlush view old result new → AreFoundIn view old new found
    → MountsFor old found × (bytes_found old found ≡ (contents_of view old).bytes)

abbrev pub KilledTurnLaw : {N : Type 0} → (view : View N) → Type 0
KilledTurnLaw {N} view = (old new : Device N) (result : Result (Unit {0}) DiskFault) (found : Image) → HoldsThrough view old new
    → AsksTurn view old result new → AreFoundIn view old new found
    → MountsFor old found × (bytes_found old found ≡ (contents_of view old).bytes)

-- and none of this is said of nothing: the pages from before a call that gained these operations are among them
abbrev pub FoundAsItWasLaw : {N : Type 0} → View N → Type 0
FoundAsItWasLaw {N} view = (old new : Device N) (log : List Operation) → IsDisk view old → holds view.honest old ≡ true → IsSome (view.recorded new.engine.nand)
    → Records (view.recorded old.engine.nand) log (view.recorded new.engine.nand) → AreFoundIn view old new (view.flash old.engine.nand).image

-- and so is whatever one of the operations may leave torn
abbrev pub FoundTornLaw : {N : Type 0} → View N → Type 0
FoundTornLaw {N} view = (old new : Device N) (before after : List Operation) (op : Operation) (torn : Image) → IsSome (view.recorded new.engine.nand)
    → Records (view.recorded old.engine.nand) (before ++ op ∷ after) (view.recorded new.engine.nand) → IsImage old.engine.geometry torn
    → Tears old.engine.geometry.pages op (image_after_all old.engine.geometry.pages (view.flash old.engine.nand).image before) torn → AreFoundIn view old new torn

-- OF A DISK IN A STORE: its die tells a record at each moment, and its pages are the store's
pub record TellsStore {S : Type 0} (held : S → Held) (recorded : DriverState (FileState S) → Option Recording) (d : DriverState (FileState S)) : Type 0 where
  pub told : recorded d ≡ Some d.told
  pub pages : (flash_in held d).image ≡ (held d.bus.store).pages

abbrev pub StoreTellsLaw : {S : Type 0} → (S → Held) → (DriverState (FileState S) → Option Recording) → Type 0
StoreTellsLaw {S} held recorded = (d : DriverState (FileState S)) → TellsStore held recorded d
