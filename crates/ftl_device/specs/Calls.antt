-- What the calls of a device promise.
use Rattle.std.specs.Prelude.{◌≡◌, ◌⊎◌, ℕ, ◌+◌, ◌-◌, ◌<◌, ◌≤◌, ◌^◌, Bool, true, false, List, [], get_or, slice_get, slice_set, Option, Some, None, IsSome}
use Rattle.std.specs.Prelude.{Result, Ok, Err}
use Rattle.std.specs.Map.{keys_of}
use Rattle.page_layout.specs.View.{View}
use Rattle.page_layout.specs.declared.geometry.Geometry.{Geometry}
use Rattle.page_layout.specs.declared.record.Key.TheVariants.{Sector}
use Rattle.page_layout.specs.declared.record.Kind.{Kind}
use Rattle.page_layout.specs.declared.record.Kind.TheVariants as kinds
use Rattle.page_layout.specs.Page.{Page, Image, body_at}
use Rattle.page_layout.specs.Counter.{HasRisen}
use Rattle.page_layout.specs.Geometry.{need_at, flush_blocks_at}
use Rattle.page_layout.specs.Array.{array_of, marks, zeros}
use Rattle.page_layout.specs.Version.{AddsNoOld}
use Rattle.page_layout.specs.Flash.{Flash}
use Rattle.bad_blocks.specs.Table.{good_count, is_good_at}
use Rattle.allocation.specs.State.{free_count, live_at}
use Rattle.budget.specs.declared.stream.Stream.TheVariants.{Data, Meta}
use Rattle.mapping_cache.specs.Mapping.{MappingState, CanLoad, slot_of, loaded}
use Rattle.image_check.specs.Stale.{is_stale}
use Rattle.image_check.specs.Mountable.{IsMountable}
use Rattle.promises.specs.Step as step
use Rattle.promises.specs.Step.{ArrayState, Reply, Command, Read, Write, Trim, Flush, Turn}
use Rattle.collection.specs.declared.fault.EngineFault.{EngineFault}
use Rattle.collection.specs.declared.fault.EngineFault.TheVariants as engine_fault
use Rattle.collection.specs.declared.engine.Engine as engines
use Rattle.collection.specs.State.{Ram}
use Rattle.collection.specs.Safe.{IsRam, ram, image_in}
use Rattle.collection.specs.Left.{IsCalm, PinHasPassed, PinIsFew, left}
use Rattle.collection.specs.Stops.{room_of}
use Rattle.collection.specs.Room.{Collects}
use Rattle.collection.specs.Pages.{newest_row}
use Rattle.collection.specs.Results.{last_record, IsLastPage}
use Rattle.collection.specs.Truth.{IsTrue}
use Rattle.collection.specs.Cost.{HasPut}
use Rattle.collection.specs.Collect.{GoesOn, KeepsKeys, HasRoom, IsAiling, HasAiling}
use Rattle.ftl_device.specs.declared.device.Device.{Device}
use Rattle.ftl_device.specs.Device.{IsDevice}
use Rattle.ftl_device.specs.declared.fault.CallFault.{CallFault}
use Rattle.ftl_device.specs.declared.fault.CallFault.TheVariants as call
use Rattle.ftl_device.specs.declared.fault.CallFault.TheVariants.{Engine}
use Rattle.ftl_device.specs.declared.fault.DeviceFault.{DeviceFault}
use Rattle.ftl_device.specs.declared.fault.DeviceFault.TheVariants.{OutOfRange, ReadOnly, SequenceSpent, OutOfMemory, Damaged, BusFault}

-- ---- a device as its promises see it

-- the sectors that the image on its die holds
abbrev pub array_in : {N : Type 0} → (N → Flash) → Device N → List (List ℕ)
array_in flash d = array_of d.engine.geometry (image_in flash d.engine)

abbrev pub state_in : {N : Type 0} → (N → Flash) → Device N → ArrayState
state_in flash d = record { array = array_in flash d; ro = d.read_only }

-- ---- what it answers

abbrev pub reply_of_fault : DeviceFault → Reply
reply_of_fault OutOfRange = step.OutOfRange
reply_of_fault (ReadOnly good wanted failed) = step.ReadOnly
reply_of_fault SequenceSpent = step.SequenceSpent
reply_of_fault OutOfMemory = step.OutOfMemory
reply_of_fault Damaged = step.Damaged
reply_of_fault BusFault = step.BusFault

-- of a call that gives no bytes
abbrev pub reply_of : Result (Unit {0}) DeviceFault → Reply
reply_of (Ok done) = step.Done
reply_of (Err fault) = reply_of_fault fault

-- of a read into a slice that holds these bytes as it ends
abbrev pub read_reply_of : List ℕ → Result (Unit {0}) DeviceFault → Reply
read_reply_of bytes (Ok done) = step.DoneWith bytes
read_reply_of bytes (Err fault) = reply_of_fault fault

-- the faults by their numbers
abbrev pub device_fault_number : DeviceFault → ℕ
device_fault_number OutOfRange = 1
device_fault_number (ReadOnly good wanted failed) = 2
device_fault_number SequenceSpent = 3
device_fault_number OutOfMemory = 4
device_fault_number Damaged = 5
device_fault_number BusFault = 6

-- what a device answers ever after that was stopped: a call that changes sectors found damage, or the die gave no outcome
abbrev pub stop_of : Option EngineFault → Option DeviceFault
stop_of None = None
stop_of (Some engine_fault.ReadOnly) = None
stop_of (Some engine_fault.SequenceSpent) = None
stop_of (Some engine_fault.Damaged) = Some Damaged
stop_of (Some engine_fault.Bus) = Some BusFault

-- ---- what is true of the image between two calls, where the die is honest

-- WHAT IS KNOWN where no fault stands: the memory is true of the image, and of a pinned block no page that was passed is a newest page, and few
-- are left
pub record Knows (r : Ram) (image : Image) : Type 0 where
  pub truth : IsTrue None r image
  pub calm : IsCalm r
  pub passed : PinHasPassed r image
  pub few : PinIsFew 0 r

-- and of a pinned block whatever fault stands: a rescue may have moved one sector more and then found no sequence
abbrev pub PinIsTrue : Option EngineFault → Ram → Image → Type 0
PinIsTrue None r image = PinHasPassed r image × PinIsFew 0 r
PinIsTrue (Some engine_fault.ReadOnly) r image = Unit {0}
PinIsTrue (Some engine_fault.SequenceSpent) r image = PinIsFew 1 r
PinIsTrue (Some engine_fault.Damaged) r image = Unit {0}
PinIsTrue (Some engine_fault.Bus) r image = Unit {0}

-- the device isn't stopped, and what it knows of the image is so
pub record IsWell {N : Type 0} (flash : N → Flash) (d : Device N) : Type 0 where
  pub going : stop_of d.engine.fault ≡ None
  pub truth : IsTrue None (ram d.engine) (image_in flash d.engine)
  pub pinned : PinIsTrue d.engine.fault (ram d.engine) (image_in flash d.engine)

-- ---- when a call is refused

-- fewer than five blocks are free as the call ends, and the counts are those of the good blocks then, of those that the geometry asks for,
-- and of those that failed in the call
pub record IsShortOf (old new : Ram) (good wanted failed : ℕ) : Type 0 where
  pub scarce : free_count new.blocks < 5
  pub good_is : good ≡ good_count new.blocks.table
  pub wanted_is : wanted ≡ need_at new.geometry new.mapping.share
  pub failed_is : good + failed ≡ good_count old.blocks.table

-- what each refusal says, from the memory as the call begins to that as it ends
abbrev pub Says : Ram → Ram → DeviceFault → Type 0
Says old new OutOfRange = new ≡ old
Says old new (ReadOnly good wanted failed) = IsShortOf old new good wanted failed
Says old new SequenceSpent = new.next ≡ 2 ^ 64 - 1
Says old new OutOfMemory = Unit {0}
Says old new Damaged = stop_of new.fault ≡ Some Damaged
Says old new BusFault = stop_of new.fault ≡ Some BusFault

-- ---- what a call that is done programs, and which sectors it leaves cached

-- a place for a sector's entry: nothing is programmed where no dirty entry has to leave for it, and else one translation page
pub record HasMadePlace (n : ℕ) (old new : Ram) : Type 0 where
  pub geometry : new.geometry ≡ old.geometry
  pub free : CanLoad old.mapping n → (new.blocks ≡ old.blocks) × (new.next ≡ old.next)
  pub taken : (CanLoad old.mapping n → ⊥) → HasPut Meta old new

-- ROOM WAS MADE: blocks were collected until five are free, and so many unless none is worth it. The pinned block was first, and then each time the
-- next victim; with so many free none was. Unless flushing, each translation page that was written had a moved sector. The cached sectors stay,
-- and their order; bad blocks stay as they are.
pub record HasMadeRoom (many : ℕ) (flushing : Bool) (old new : Ram) : Type 0 where
  pub collects : (blocks : List ℕ) × Collects many flushing old blocks new
  pub rests : many ≤ free_count old.blocks → new ≡ old
  pub goes : GoesOn old new
  pub keys : KeepsKeys old.mapping new.mapping
  pub room : HasRoom many new
  pub calm : IsCalm new

-- room was made, and then a place for a sector's entry
pub record HasMadeRoomAndPlace (n : ℕ) (old new : Ram) : Type 0 where
  pub mid : Ram
  pub room : HasMadeRoom 9 false old mid
  pub place : HasMadePlace n mid new

-- one translation page is programmed, and then one page of a sector
pub record HasPutBoth (old new : Ram) : Type 0 where
  pub mid : Ram
  pub geometry : mid.geometry ≡ old.geometry
  pub meta : HasPut Meta old mid
  pub page : HasPut Data mid new

-- one page of the sector, and before it one translation page, just where a dirty entry has to leave for the sector's
pub record HasPutSector (n : ℕ) (old new : Ram) : Type 0 where
  pub free : CanLoad old.mapping n → HasPut Data old new
  pub taken : (CanLoad old.mapping n → ⊥) → HasPutBoth old new

-- WHAT A CALL COSTS: what making room does, and then that
pub record HasCost (n : ℕ) (old new : Ram) : Type 0 where
  pub mid : Ram
  pub room : HasMadeRoom 9 false old mid
  pub put : HasPutSector n mid new

-- plain LRU: the cached sectors after sector n was used, the most recently used first
abbrev pub order_after : MappingState → ℕ → List ℕ
order_after m n = keys_of (loaded m n None).cached

-- ---- inside a call that changes a sector

-- what the engine's memory tells of each answer
abbrev pub TellsByMemory : {A : Type 0} → Ram → Ram → Result A EngineFault → Type 0
TellsByMemory old new (Ok answer) = good_count new.blocks.table ≤ good_count old.blocks.table
TellsByMemory old new (Err engine_fault.ReadOnly) = (free_count new.blocks < 5) × (good_count new.blocks.table ≤ good_count old.blocks.table)
TellsByMemory old new (Err engine_fault.SequenceSpent) = new.next ≡ 2 ^ 64 - 1
TellsByMemory old new (Err engine_fault.Damaged) = Unit {0}
TellsByMemory old new (Err engine_fault.Bus) = Unit {0}

-- the array is as it was, what is known of the image is so and, where the die has version 2, no newest page of version 1 is added
pub record KeepsArray (g : Geometry) (before : Image) (new : Ram) (after : Image) : Type 0 where
  pub truth : Knows new after
  pub array : array_of g after ≡ array_of g before
  pub versions : AddsNoOld g before after

-- the same where a fault stands: of a pinned block nothing is known
pub record KeepsArrayAtFault (g : Geometry) (before : Image) (new : Ram) (after : Image) : Type 0 where
  pub truth : IsTrue None new after
  pub array : array_of g after ≡ array_of g before
  pub versions : AddsNoOld g before after

-- or that few pages of it are left, but for a sector that a rescue has moved
pub record KeepsFew (g : Geometry) (before : Image) (new : Ram) (after : Image) : Type 0 where
  pub truth : IsTrue None new after
  pub array : array_of g after ≡ array_of g before
  pub versions : AddsNoOld g before after
  pub few : PinIsFew 1 new

-- and the row is that of the sector's newest page
pub record FindsNewestRow (n : ℕ) (row : Option ℕ) (g : Geometry) (before : Image) (new : Ram) (after : Image) : Type 0 where
  pub keeps : KeepsArray g before new after
  pub row_is : row ≡ newest_row after (Sector n)

-- the same of a call that may want memory too
abbrev pub CallTells : {A : Type 0} → Ram → Ram → Result A CallFault → Type 0
CallTells old new (Ok answer) = good_count new.blocks.table ≤ good_count old.blocks.table
CallTells old new (Err (Engine engine_fault.ReadOnly)) = (free_count new.blocks < 5) × (good_count new.blocks.table ≤ good_count old.blocks.table)
CallTells old new (Err (Engine engine_fault.SequenceSpent)) = new.next ≡ 2 ^ 64 - 1
CallTells old new (Err (Engine engine_fault.Damaged)) = Unit {0}
CallTells old new (Err (Engine engine_fault.Bus)) = Unit {0}
CallTells old new (Err call.OutOfMemory) = Unit {0}

-- the fault that stands in the engine after such a call
abbrev pub standing_after : {A : Type 0} → Result A CallFault → Option EngineFault
standing_after (Ok answer) = None
standing_after (Err (Engine fault)) = Some fault
standing_after (Err call.OutOfMemory) = None

-- what is true of the image where it was refused
abbrev pub CallRefused : Geometry → Image → Ram → Image → CallFault → Type 0
CallRefused g before new after (Engine engine_fault.ReadOnly) = KeepsArrayAtFault g before new after
CallRefused g before new after (Engine engine_fault.SequenceSpent) = KeepsFew g before new after
CallRefused g before new after (Engine engine_fault.Damaged) = ⊥
CallRefused g before new after (Engine engine_fault.Bus) = Unit {0}
CallRefused g before new after call.OutOfMemory = KeepsArray g before new after

-- sector n holds these bytes, all others what they held, and no newest page of version 1 is added
pub record ChangesOneSector (g : Geometry) (n : ℕ) (bytes : List ℕ) (before : Image) (new : Ram) (after : Image) : Type 0 where
  pub truth : Knows new after
  pub array : array_of g after ≡ slice_set (array_of g before) n bytes
  pub versions : AddsNoOld g before after

-- THE NEWEST PAGE OF THE SECTOR is the last one that was programmed, of this kind and with this data area
pub record HasPage (kind : Kind) (n : ℕ) (body : List ℕ) (r : Ram) (image : Image) : Type 0 where
  pub row : ℕ
  pub newest : newest_row image (Sector n) ≡ Some row
  pub its : get_or (marks image) row None ≡ Some (last_record kind n row r)
  pub holds : body_at image row ≡ body

-- it is of kind data and has the bytes that were written, or of kind trim and has 00h bytes
abbrev pub HasPageOf : Geometry → Command → Ram → Image → Type 0
HasPageOf g (Read sector) r image = Unit {0}
HasPageOf g (Write sector bytes) r image = HasPage kinds.Sector sector bytes r image
HasPageOf g (Trim sector) r image = HasPage kinds.Trim sector (zeros g) r image
HasPageOf g Flush r image = Unit {0}
HasPageOf g Turn r image = Unit {0}

-- the same of the page that was programmed, whatever the die made of it
abbrev pub IsLastOf : Geometry → Command → Ram → Page → Type 0
IsLastOf g (Read sector) r p = Unit {0}
IsLastOf g (Write sector bytes) r p = IsLastPage kinds.Sector sector r p × (p.body ≡ bytes)
IsLastOf g (Trim sector) r p = IsLastPage kinds.Trim sector r p × (p.body ≡ zeros g)
IsLastOf g Flush r p = Unit {0}
IsLastOf g Turn r p = Unit {0}

-- ---- the device around it

-- what is so of a device that may change a sector
pub record MayChange (r : Ram) (ro : Bool) (n : ℕ) : Type 0 where
  pub going : r.fault ≡ None
  pub within : n < r.geometry.sectors
  pub writable : ro ≡ false
  pub sequence : r.next < 2 ^ 64 - 1

-- it may not since there is no such sector
pub record IsBeyond (r : Ram) (n : ℕ) : Type 0 where
  pub going : stop_of r.fault ≡ None
  pub past : r.geometry.sectors ≤ n

-- or since it is read-only
pub record IsClosed (r : Ram) (ro : Bool) (n good wanted failed : ℕ) : Type 0 where
  pub going : stop_of r.fault ≡ None
  pub within : n < r.geometry.sectors
  pub closed : ro ≡ true
  pub short : IsShortOf r r good wanted failed

-- or since there is no sequence for it
pub record IsSpentAt (r : Ram) (ro : Bool) (n : ℕ) : Type 0 where
  pub going : stop_of r.fault ≡ None
  pub within : n < r.geometry.sectors
  pub writable : ro ≡ false
  pub last : r.next ≡ 2 ^ 64 - 1

-- why it may not
abbrev pub MayNot : Ram → Bool → ℕ → DeviceFault → Type 0
MayNot r ro n OutOfRange = IsBeyond r n
MayNot r ro n (ReadOnly good wanted failed) = IsClosed r ro n good wanted failed
MayNot r ro n SequenceSpent = IsSpentAt r ro n
MayNot r ro n OutOfMemory = ⊥
MayNot r ro n Damaged = stop_of r.fault ≡ Some Damaged
MayNot r ro n BusFault = stop_of r.fault ≡ Some BusFault

-- the sector is the most recently used of those that are cached
abbrev pub IsMostRecent : ℕ → MappingState → Type 0
IsMostRecent n m = slice_get (keys_of m.cached) 0 ≡ Some n

-- what a device answers where that many blocks were good as the call began, and this is so
abbrev pub answer_of : Ram → ℕ → Result (Unit {0}) CallFault → Result (Unit {0}) DeviceFault
answer_of r good (Ok done) = Ok done
answer_of r good (Err (Engine engine_fault.ReadOnly)) = Err (ReadOnly (good_count r.blocks.table) (need_at r.geometry r.mapping.share) (good - good_count r.blocks.table))
answer_of r good (Err (Engine engine_fault.SequenceSpent)) = Err SequenceSpent
answer_of r good (Err (Engine engine_fault.Damaged)) = Err Damaged
answer_of r good (Err (Engine engine_fault.Bus)) = Err BusFault
answer_of r good (Err call.OutOfMemory) = Err OutOfMemory

-- ---- a turn

-- no bad block has more newest pages than before; where one had some and no block failed meanwhile, such a one has fewer
pub record HasRescued (old new : Ram) : Type 0 where
  pub bad : (b : ℕ) → b < old.geometry.blocks → is_good_at old.blocks.table b ≡ false → live_at new.blocks b ≤ live_at old.blocks b
  pub fewer : good_count new.blocks.table ≡ good_count old.blocks.table → HasAiling old.blocks → (block : ℕ) × IsAiling old.blocks block × (live_at new.blocks block < live_at old.blocks block)

-- no bad block has more newest pages than before
abbrev pub KeepsBad : Ram → Ram → Type 0
KeepsBad old new = (b : ℕ) → b < old.geometry.blocks → is_good_at old.blocks.table b ≡ false → live_at new.blocks b ≤ live_at old.blocks b

-- IT HAS PROGRAMMED OR ERASED: each program takes a sequence, and the count of erases rises with each erase
abbrev pub HasWorked : (old new : Ram) (erases_before erases_after : ℕ) → Type 0
HasWorked old new erases_before erases_after = (old.next < new.next) ⊎ HasRisen erases_before erases_after

-- or it has done neither: then twelve blocks are free, and those that a flush fills, unless too few are good
abbrev pub IsQuiet : {N : Type 0} → (erases : N → ℕ) → (old new : engines.Engine N) → Type 0
IsQuiet erases old new = HasWorked (ram old) (ram new) (erases old.nand) (erases new.nand) ⊎ (need_at new.geometry new.mapping.share + 3 ≤ good_count (ram new).blocks.table → 12 + flush_blocks_at new.geometry new.mapping.share ≤ free_count (ram new).blocks)

-- it has erased, or less is left of the collection under way
abbrev pub HasLess : {N : Type 0} → (view : View N) → (old new : engines.Engine N) → Type 0
HasLess view old new = HasRisen (view.erases old.nand) (view.erases new.nand) ⊎ (left (ram new) (image_in view.flash new) < left (ram old) (image_in view.flash old))

-- A TURN THAT IS DONE where no bad block holds a newest page: nothing has changed, or it has erased or
-- left less to do
abbrev pub HasFallen : {N : Type 0} → (view : View N) → (old new : engines.Engine N) → Type 0
HasFallen view old new = (new ≡ old) ⊎ HasLess view old new

-- ---- laws

-- WHAT IS LEFT of the collection under way is less than a block's pages, of a device that is not read-only
abbrev pub LeftBelowLaw : {N : Type 0} → (N → Flash) → Type 0
LeftBelowLaw {N} flash = (d : Device N) → IsDevice flash d → IsWell flash d → d.read_only ≡ false → left (ram d.engine) (image_in flash d.engine) < d.engine.geometry.pages

-- SO OF AS MANY TURNS IN A ROW as a block has pages, each without a failure and begun while no bad block held a newest page, one has erased or
-- changed nothing
abbrev pub TurnsLaw : {N : Type 0} → (view : View N) → Type 0
TurnsLaw {N} view = (engine_at : ℕ → engines.Engine N) (pages : ℕ) → left (ram (engine_at 0)) (image_in view.flash (engine_at 0)) < pages
    → ((k : ℕ) → k < pages → HasFallen view (engine_at k) (engine_at (k + 1))) → (k : ℕ) × (k < pages)
    × ((engine_at (k + 1) ≡ engine_at k) ⊎ HasRisen (view.erases (engine_at k).nand) (view.erases (engine_at (k + 1)).nand))

-- A PAGE IS OF ONE KIND: the newest page of a sector is not that of a write and of a trim, and holds one data area
abbrev pub OneKindLaw : Type 0
OneKindLaw = (kind other : Kind) (n : ℕ) (body bytes : List ℕ) (r : Ram) (image : Image) → HasPage kind n body r image → HasPage other n bytes r image → (kind ≡ other) × (body ≡ bytes)

-- SO A WRITE IS NO TRIM, also of 00h bytes: no page is that of both, nor the sector's newest after both; and a write's has the bytes that were written
abbrev pub WriteOrTrimLaw : Type 0
WriteOrTrimLaw = (g : Geometry) (n : ℕ) (bytes other : List ℕ) (r : Ram) (image : Image) (p : Page)
    → (HasPageOf g (Write n bytes) r image → HasPageOf g (Trim n) r image → ⊥)
    × (HasPageOf g (Write n bytes) r image → HasPageOf g (Write n other) r image → bytes ≡ other)
    × (IsLastOf g (Write n bytes) r p → IsLastOf g (Trim n) r p → ⊥)
    × (IsLastOf g (Write n bytes) r p → IsLastOf g (Write n other) r p → bytes ≡ other)

-- where no sector is moved, a sector that is stale in the image is cached
abbrev pub StaleLaw : Type 0
StaleLaw = (r : Ram) (image : Image) (n : ℕ) → IsTrue None r image → r.mapping.moved ≡ [] → n < r.geometry.sectors → is_stale r.geometry image n ≡ true → IsSome (slot_of r.mapping n)

-- A device may be started again from what it holds: of a memory that agrees with the image, the image has a certificate at the capacity of
-- the cached mapping table, the moved sectors that may wait, and the pages of a block together, or at the number of sectors, where that is less.
abbrev pub RestartLaw : Type 0
RestartLaw = (r : Ram) (image : Image) → IsRam r → IsTrue None r image → room_of r ≤ 65536 → IsMountable r.geometry (room_of r) image
