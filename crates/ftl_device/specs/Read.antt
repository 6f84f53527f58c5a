-- Which faults a read answers, and what it leaves in memory.
use Rattle.std.specs.Prelude.{◌≡◌, ◌⊎◌, ℕ, false, List, Option, Some, None, IsSome, Result, Ok, Err}
use Rattle.mapping_cache.specs.Mapping.{MappingState, CanLoad, slot_of, moved_row, pending, used, loaded, cleaned}
use Rattle.collection.specs.declared.fault.EngineFault.TheVariants as write
use Rattle.page_layout.specs.Page.{Page}
use Rattle.collection.specs.State.{Ram}
use Rattle.collection.specs.Looks.{FindsRow, GivesSector}
use Rattle.ftl_device.specs.Calls.{HasMadeRoom}
use Rattle.ftl_device.specs.declared.fault.DeviceFault.{DeviceFault}
use Rattle.ftl_device.specs.declared.fault.DeviceFault.TheVariants as fault

-- the faults of a read: it needs no room, no sequence and no memory
abbrev pub IsReadRefusal : DeviceFault → Type 0
IsReadRefusal fault.OutOfRange = Unit {0}
IsReadRefusal (fault.ReadOnly good need failed) = ⊥
IsReadRefusal fault.SequenceSpent = ⊥
IsReadRefusal fault.OutOfMemory = ⊥
IsReadRefusal fault.Damaged = Unit {0}
IsReadRefusal fault.BusFault = Unit {0}

-- a sector came into the cache with this row, and no dirty entry left it for that
pub record IsCachedNow (n : ℕ) (row : Option ℕ) (old new : MappingState) : Type 0 where
  pub room : CanLoad old n
  pub loaded_is : new ≡ loaded old n row

-- A LOOK-UP that found this row. A cached sector becomes the most recently used, and another may be cached with the row, but not one that is moved. No row
-- is lost that a translation page lacks.
pub record LooksUp (n : ℕ) (row : Option ℕ) (old new : MappingState) : Type 0 where
  pub hit : IsSome (slot_of old n) → new ≡ used old n
  pub moved : IsSome (moved_row old n) → new ≡ old
  pub miss : slot_of old n ≡ None → (new ≡ old) ⊎ IsCachedNow n row old new
  pub lacking : (k : ℕ) → pending new k ≡ pending old k

-- the mapping is as it was, or no row is left for one translation page, which was written back
abbrev pub HasWrittenBack : MappingState → MappingState → Type 0
HasWrittenBack old new = (new ≡ old) ⊎ ((page : ℕ) × (new ≡ cleaned old page))

-- what the look-up of a sector finds: room was made, and then a place for the sector's entry
pub record IsPrepared (old : Ram) (before : MappingState) : Type 0 where
  pub room : Ram
  pub made : HasMadeRoom 9 false old room
  pub place : HasWrittenBack room.mapping before

-- THE SECTOR WAS CACHED WITH THE ROW THAT A LOOK-UP FOUND, by memory as it was then, once there were room and a place, or by this page of entries
pub record IsLookedUp (n : ℕ) (old r : Ram) (entries_page : Page) : Type 0 where
  pub before : MappingState
  pub prepared : IsPrepared old before
  pub row : Option ℕ
  pub found : FindsRow (record r { mapping = before }) n entries_page row
  pub loaded_is : r.mapping ≡ loaded before n row

-- A READ THAT IS DONE, whatever the die does: there is a row that memory knows, or else that the page of entries gives; what is given is zeros
-- where there is none, and else what the page of the sector holds; of the memory the mapping alone has changed.
pub record HasRead (n : ℕ) (old new : Ram) (entries_page sector_page : Page) (bytes : List ℕ) : Type 0 where
  pub row : Option ℕ
  pub found : FindsRow old n entries_page row
  pub gives : GivesSector old.geometry n row sector_page bytes
  pub mapping : LooksUp n row old.mapping new.mapping
  pub others : new ≡ record old { mapping = new.mapping }

-- what a read gives and leaves in memory, with the pages that are in the buffers as it ends: after the die's fault that fault stands, and any other refusal leaves all as it was
abbrev pub LeavesRead : ℕ → Result (Unit {0}) DeviceFault → (old new : Ram) (entries_page sector_page : Page) → List ℕ → Type 0
LeavesRead n (Ok _) old new p q bytes = HasRead n old new p q bytes
LeavesRead n (Err fault.BusFault) old new p q bytes = new ≡ record old { fault = Some write.Bus }
LeavesRead n (Err _) old new p q bytes = new ≡ old
