-- A DIE THAT MAY HAVE BEEN STOPPED: with which cache it is opened, and why it is not.
use Rattle.std.specs.Prelude.{◌≡◌, ◌≤◌, ◌⊎◌, ℕ, Bool, true, false, Option, Some, None, Result, Ok, Err}
use Rattle.onfi_cycles.specs.Driver.{DriverState}
use Rattle.file_die.specs.Die.{FileState}
use Rattle.file_die.specs.Store.{Held}
use Rattle.image_check.specs.declared.refusal.Refusal.TheVariants.{TooStale}
use Rattle.mount.specs.Mounted.{Refuses}
use Rattle.nbd_stream.specs.declared.fault.DiskFault.{DiskFault}
use Rattle.ftl_device.specs.declared.device.Device.{Device}
use Rattle.disk_server.specs.declared.opened.OpenStoreFault.{OpenStoreFault}
use Rattle.disk_server.specs.declared.opened.OpenStoreFault.TheVariants.{Flush, Mount}
use Rattle.disk_server.specs.Disk.{AsksFlush}
use Rattle.disk_server.specs.Opened.{ComesBack, HasCome, IsUnstarted, view_in}

-- a store was refused for its stale sectors, and a cache of so many entries would have room for them
pub record HasRoomFor (fault : OpenStoreFault) (stale : ℕ) : Type 0 where
  pub capacity : ℕ
  pub is : fault ≡ Mount (TooStale stale capacity)
  pub least : 1 ≤ stale
  pub most : stale ≤ 65536

-- THE ENTRIES OF A CACHE THAT WOULD HAVE ROOM, where there is one
abbrev pub IsRoomIn : (fault : OpenStoreFault) → Option ℕ → Type 0
IsRoomIn fault (Some stale) = HasRoomFor fault stale
IsRoomIn fault None = (stale : ℕ) → ¬ HasRoomFor fault stale

-- its pages have so many stale sectors, more than the cache has room for, and came back as they were
pub record IsStale {S : Type 0} (held : S → Held) (honest : S → Bool) (store : S) (capacity stale : ℕ) (given : S) : Type 0 where
  pub asked : ℕ
  pub refuses : honest store ≡ true → Refuses (held store).geometry capacity (held store).pages (TooStale stale asked)
  pub come : HasCome held honest store given
  pub least : 1 ≤ stale
  pub most : stale ≤ 65536

-- a store was opened with so many entries and this share, and its device was asked for one flush
pub record AsksToFlush {S : Type 0} (held : S → Held) (honest : S → Bool) (failed : S → ℕ) (entries share : ℕ) (answer : Result (Unit {0}) DiskFault) (left : Device (DriverState (FileState S))) : Type 0 where
  pub opened : Device (DriverState (FileState S))
  pub entries_are : opened.engine.mapping.capacity ≡ entries
  pub share_is : opened.engine.mapping.share ≡ share
  pub flush : AsksFlush (view_in held honest failed) opened answer left

-- ---- it is opened

-- once it was flushed: with so many entries; or with as many as were stale before, where its pages still have too many stale sectors
abbrev pub IsOpenedEither : {S : Type 0} → (S → Held) → (honest : S → Bool) → S → (capacity stale entries : ℕ) → Type 0
IsOpenedEither {S} held honest store capacity stale entries =
    (entries ≡ capacity) ⊎ (((again : ℕ) × (given : S) × IsStale held honest store capacity again given) × (entries ≡ stale))

abbrev pub IsOpenedFlushed : {S : Type 0} → (S → Held) → (honest : S → Bool) → (failed : S → ℕ) → (capacity stale share entries : ℕ) → Type 0
IsOpenedFlushed {S} held honest failed capacity stale share entries =
    (left : Device (DriverState (FileState S))) × AsksToFlush held honest failed stale share (Ok tt) left × IsOpenedEither held honest left.engine.nand.bus.store capacity stale entries

abbrev pub IsOpenedBy : {S : Type 0} → (S → Held) → (honest : S → Bool) → (failed : S → ℕ) → (writes : Bool) → (capacity stale share entries : ℕ) → Type 0
IsOpenedBy held honest failed true capacity stale share entries = IsOpenedFlushed held honest failed capacity stale share entries
IsOpenedBy held honest failed false capacity stale share entries = entries ≡ stale

-- WITH ITS OWN CACHE; or it has too many stale sectors, and is opened with as many entries, flushed where it is to be written, and opened again
abbrev pub IsOpenedWith : {S : Type 0} → (S → Held) → (honest : S → Bool) → (failed : S → ℕ) → (writes : Bool) → S → (capacity share entries : ℕ) → Type 0
IsOpenedWith {S} held honest failed writes store capacity share entries =
    (entries ≡ capacity) ⊎ ((stale : ℕ) × (given : S) × IsStale held honest store capacity stale given × IsOpenedBy held honest failed writes capacity stale share entries)

-- ---- it is not

-- what the last attempt tells of the store, which came back of it
abbrev pub IsLastFault : {S : Type 0} → (S → Held) → (honest : S → Bool) → (failed : S → ℕ) → S → (capacity share : ℕ) → S → OpenStoreFault → Type 0
IsLastFault held honest failed store capacity share given fault = IsUnstarted held honest failed store capacity share given fault × ComesBack held honest store fault given

-- which no larger cache mends
abbrev pub IsFault : {S : Type 0} → (S → Held) → (honest : S → Bool) → (failed : S → ℕ) → S → (capacity share : ℕ) → S → OpenStoreFault → Type 0
IsFault held honest failed store capacity share given fault = IsLastFault held honest failed store capacity share given fault × ((stale : ℕ) → ¬ HasRoomFor fault stale)

-- once it was flushed: not with so many entries, nor with as many as were stale before
abbrev pub IsOpenedNeither : {S : Type 0} → (S → Held) → (honest : S → Bool) → (failed : S → ℕ) → S → (capacity stale share : ℕ) → S → OpenStoreFault → Type 0
IsOpenedNeither {S} held honest failed store capacity stale share given fault =
    IsFault held honest failed store capacity share given fault
    ⊎ ((again : ℕ) × (come : S) × IsStale held honest store capacity again come × IsLastFault held honest failed come stale share given fault)

-- its device failed its flush: the store is the one that it left
abbrev pub FailsFlush : {S : Type 0} → (S → Held) → (honest : S → Bool) → (failed : S → ℕ) → (stale share : ℕ) → S → OpenStoreFault → Type 0
FailsFlush {S} held honest failed stale share given fault =
    (e : DiskFault) × (left : Device (DriverState (FileState S))) × AsksToFlush held honest failed stale share (Err e) left × (given ≡ left.engine.nand.bus.store) × (fault ≡ Flush)

-- A STORE WITH SO MANY STALE SECTORS is not opened with as many entries; or its device failed its flush; or it is not opened again
abbrev pub IsUnopenedStale : {S : Type 0} → (S → Held) → (honest : S → Bool) → (failed : S → ℕ) → S → (capacity stale share : ℕ) → S → OpenStoreFault → Type 0
IsUnopenedStale {S} held honest failed store capacity stale share given fault =
    IsLastFault held honest failed store stale share given fault
    ⊎ (FailsFlush held honest failed stale share given fault
    ⊎ ((left : Device (DriverState (FileState S))) × AsksToFlush held honest failed stale share (Ok tt) left × IsOpenedNeither held honest failed left.engine.nand.bus.store capacity stale share given fault))

-- WHY IT IS NOT OPENED, and the store that came back: what is told is so of the store, and no larger cache mends it; or it has too many stale sectors, and why it is not opened with a larger one
abbrev pub IsUnopenedLater : {S : Type 0} → (S → Held) → (honest : S → Bool) → (failed : S → ℕ) → S → (capacity share : ℕ) → S → OpenStoreFault → Type 0
IsUnopenedLater {S} held honest failed store capacity share given fault =
    IsFault held honest failed store capacity share given fault
    ⊎ ((stale : ℕ) × (come : S) × IsStale held honest store capacity stale come × IsUnopenedStale held honest failed come capacity stale share given fault)

-- ---- laws

-- AN HONEST STORE WHOSE STALE SECTORS HAVE ROOM IS OPENED WITH ITS OWN CACHE
abbrev pub OwnCacheLaw : {S : Type 0} → (S → Held) → (honest : S → Bool) → (failed : S → ℕ) → Type 0
OwnCacheLaw {S} held honest failed = (writes : Bool) (store : S) (capacity share entries : ℕ) → honest store ≡ true
    → ((stale asked : ℕ) → ¬ Refuses (held store).geometry capacity (held store).pages (TooStale stale asked)) → IsOpenedWith held honest failed writes store capacity share entries → entries ≡ capacity

-- ONE THAT IS NOT TO BE WRITTEN IS OPENED WITH ITS OWN CACHE, or with just as many entries as it was refused for
abbrev pub UnwrittenCacheLaw : {S : Type 0} → (S → Held) → (honest : S → Bool) → (failed : S → ℕ) → Type 0
UnwrittenCacheLaw {S} held honest failed = (store : S) (capacity share entries : ℕ) → honest store ≡ true → IsOpenedWith held honest failed false store capacity share entries
    → (entries ≡ capacity) ⊎ ((asked : ℕ) × Refuses (held store).geometry capacity (held store).pages (TooStale entries asked))
