-- WHY POWER BROUGHT NO DEVICE, and the die that comes back.
use Rattle.std.specs.Prelude.{◌≡◌, ◌≢◌, ◌↔◌, ◌<◌, ◌≤◌, ◌+◌, ◌*◌, ℕ, max, true, Result, Ok, Err, ◌⊎◌}
use Rattle.page_layout.specs.View.{View}
use Rattle.page_layout.specs.declared.geometry.Geometry.{Geometry}
use Rattle.page_layout.specs.Geometry.{row_count, translation_pages}
use Rattle.page_layout.specs.Array.{array_of}
use Rattle.page_layout.specs.Counter.{HasRisen}
use Rattle.page_layout.specs.OnlyReads.{OnlyReads}
use Rattle.page_layout.specs.Page.{Image}
use Rattle.promises.specs.Step as step
use Rattle.certificate.specs.Claim.{Claim}
use Rattle.image_check.specs.Agrees.{Agrees, IsAsked}
use Rattle.image_check.specs.Mountable.{IsMountable}
use Rattle.image_check.specs.Refused.{IsRefusal}
use Rattle.image_check.specs.Stale.{stale_count}
use Rattle.image_check.specs.declared.refusal.Refusal.{Refusal}
use Rattle.image_check.specs.declared.refusal.Refusal.TheVariants.{GeometryDiffers, Source, TooStale, WrongLength}
use Rattle.mount.specs.Mounted.{IsOfMounting, Refuses}
use Rattle.ftl_device.specs.declared.device.Device.{Device}
use Rattle.ftl_device.specs.Calls.{array_in}
use Rattle.ftl_device.specs.declared.fault.DeviceFault.{DeviceFault}
use Rattle.ftl_device.specs.declared.fault.DeviceFault.TheVariants.{BusFault, Damaged, OutOfMemory, OutOfRange, ReadOnly, SequenceSpent}
use Rattle.ftl_device.specs.Changes.{Upkeeps}
use Rattle.device_slot.specs.Begun.{IsDeviceBegun}
use Rattle.device_slot.specs.declared.power.PowerFault.{PowerFault}
use Rattle.device_slot.specs.declared.power.PowerFault.TheVariants.{Refused, Start, Flush}

abbrev pub unpowered_nand : {N : Type 0} → PowerFault N → N
unpowered_nand (Refused refusal nand) = nand
unpowered_nand (Start nand) = nand
unpowered_nand (Flush fault nand) = nand

-- ---- after one look at the pages

-- a look reads each page at most once, and the newest translation pages twice
abbrev pub look_reads : Geometry → ℕ
look_reads g = row_count g + translation_pages g

-- AT MOST SO MANY LOOKS AT A DIE: it was asked for reads alone
pub record LooksAtMost {N : Type 0} (view : View N) (g : Geometry) (many : ℕ) (old new : N) : Type 0 where
  pub only_reads : OnlyReads view old new
  pub most_reads : view.reads new ≤ view.reads old + many * look_reads g

-- a certificate agrees with the pages, for a cache of so many entries
pub record HasCertificate (g : Geometry) (capacity : ℕ) (image : Image) : Type 0 where
  pub certificate : Claim
  pub agrees : Agrees g capacity image certificate

-- the pages were refused: of any die by what may come, of an honest die by what is so of them; they are as they were unless a read failed, which was counted
pub record ArePagesRefused {N : Type 0} (view : View N) (nand : N) (why : Refusal) (given : N) (MayCome IsSo : Refusal → Type 0) : Type 0 where
  pub only : MayCome why
  pub shows : view.honest nand ≡ true → IsSo why
  pub same : why ≢ Source → view.honest nand ≡ true → view.flash given ≡ view.flash nand
  pub rose : why ≡ Source → HasRisen (view.failed nand) (view.failed given)

-- they are as they were and, of an honest die, may be started from; but no memory was left for a device
pub record IsDeviceUnstarted {N : Type 0} (view : View N) (nand given : N) (MayStart : Type 0) : Type 0 where
  pub agrees : view.honest nand ≡ true → MayStart
  pub same : view.honest nand ≡ true → view.flash given ≡ view.flash nand

-- what one look says, where it refuses what is so
abbrev pub IsUnpowered : {N : Type 0} → View N → N → (MayCome IsSo : Refusal → Type 0) → (MayStart : Type 0) → PowerFault N → Type 0
IsUnpowered view nand MayCome IsSo MayStart (Refused why given) = ArePagesRefused view nand why given MayCome IsSo
IsUnpowered view nand MayCome IsSo MayStart (Start given) = IsDeviceUnstarted view nand given MayStart
IsUnpowered view nand MayCome IsSo MayStart (Flush fault given) = ⊥

-- no certificate agrees with the pages at this capacity
abbrev pub ArePagesUnmounted : {N : Type 0} → View N → N → Geometry → (capacity : ℕ) → PowerFault N → Type 0
ArePagesUnmounted view nand g capacity fault =
    IsUnpowered view nand IsOfMounting (Refuses g capacity (view.flash nand).image) (HasCertificate g capacity (view.flash nand).image) fault

-- what a certificate may be refused for, whatever the pages are: for its geometry just where that is another one
abbrev pub IsOfChecking : Geometry → (capacity : ℕ) → Claim → Refusal → Type 0
IsOfChecking g capacity c why = (why ≢ WrongLength) × ((why ≡ GeometryDiffers) ↔ (¬ IsAsked g capacity c))

-- this one does not
abbrev pub IsCertificateUnaccepted : {N : Type 0} → View N → N → Geometry → (capacity : ℕ) → Claim → PowerFault N → Type 0
IsCertificateUnaccepted view nand g capacity c fault =
    IsUnpowered view nand (IsOfChecking g capacity c) (IsRefusal g capacity (view.flash nand).image c) (Agrees g capacity (view.flash nand).image c) fault

-- what a stop left wants a larger cache than this one: so many entries, which some cache has
abbrev pub WantsCache : {N : Type 0} → ℕ → PowerFault N → ℕ → Type 0
WantsCache capacity (Refused (TooStale stale most) nand) entries = (entries ≡ stale) × (capacity < entries) × (entries ≤ 65536)
WantsCache capacity _ entries = ⊥

-- so many sectors are stale, and no certificate is for a cache of fewer entries
pub record IsTooStale (g : Geometry) (capacity : ℕ) (image : Image) (stale : ℕ) : Type 0 where
  pub stale_is : stale ≡ stale_count g image
  pub none : ¬ IsMountable g capacity image

-- ---- after a flush between two looks

-- whatever the die does, it is as honest as it was, has its geometry, and counts no fewer failures
pub record IsDieHandedBack {N : Type 0} (view : View N) (nand given : N) : Type 0 where
  pub honest_is : view.honest given ≡ view.honest nand
  pub geometry_is : (view.flash given).geometry ≡ (view.flash nand).geometry
  pub failed_is : view.failed nand ≤ view.failed given

-- an honest one holds the array that it held
abbrev pub HoldsSame : {N : Type 0} → View N → Geometry → N → N → Type 0
HoldsSame view g nand given = view.honest nand ≡ true → array_of g (view.flash given).image ≡ array_of g (view.flash nand).image

-- the entries of the cache that a start takes for these pages: as many as it is asked for, or as many as sectors are stale
abbrev pub entries_for : Geometry → (capacity : ℕ) → Image → ℕ
entries_for g capacity image = max capacity (stale_count g image)

-- the pages are refused for their stale sectors only where no cache has room for these
abbrev pub IsPastEachCache : Refusal → Type 0
IsPastEachCache (TooStale stale most) = 65536 < stale
IsPastEachCache _ = Unit {0}

-- the pages that come back are refused, of an honest die for what is so of them. They are as they were where the cache had room for what was stale.
pub record IsStillRefused {N : Type 0} (view : View N) (nand : N) (g : Geometry) (capacity : ℕ) (why : Refusal) (given : N) : Type 0 where
  pub only : IsOfMounting why
  pub rose : why ≡ Source → HasRisen (view.failed nand) (view.failed given)
  pub holds : why ≢ Source → HoldsSame view g nand given
  pub refuses : why ≢ Source → view.honest nand ≡ true → Refuses g capacity (view.flash given).image why
  pub past : view.honest nand ≡ true → IsPastEachCache why
  pub unwritten : why ≢ Source → view.honest nand ≡ true → stale_count g (view.flash nand).image ≤ capacity → view.flash given ≡ view.flash nand

-- or may be started from, of an honest die, with this cache; but no memory was left for a device
pub record IsStillUnstarted {N : Type 0} (view : View N) (nand : N) (g : Geometry) (capacity : ℕ) (given : N) : Type 0 where
  pub holds : HoldsSame view g nand given
  pub agrees : view.honest nand ≡ true → HasCertificate g (entries_for g capacity (view.flash given).image) (view.flash given).image
  pub unwritten : view.honest nand ≡ true → stale_count g (view.flash nand).image ≤ capacity → view.flash given ≡ view.flash nand

-- the answers by which a flush stops a device
abbrev pub StopsFlush : DeviceFault → Type 0
StopsFlush Damaged = Unit {0}
StopsFlush BusFault = Unit {0}
StopsFlush _ = ⊥

-- a device that could be started failed its flush: of an honest die by its bus alone, and that was counted
pub record IsUnflushed {N : Type 0} (view : View N) (nand : N) (fault : DeviceFault) (given : N) (CouldStart : Type 0) : Type 0 where
  pub only : StopsFlush fault
  pub bus : view.honest nand ≡ true → fault ≡ BusFault
  pub rose : fault ≡ BusFault → HasRisen (view.failed nand) (view.failed given)
  pub started : view.honest nand ≡ true → CouldStart

-- one of so many entries
abbrev pub IsUnsettledWith : {N : Type 0} → View N → N → Geometry → (entries : ℕ) → PowerFault N → Type 0
IsUnsettledWith view nand g entries (Refused why given) = ArePagesUnmounted view nand g entries (Refused why given)
IsUnsettledWith view nand g entries (Start given) = ArePagesUnmounted view nand g entries (Start given)
IsUnsettledWith view nand g entries (Flush fault given) = IsUnflushed view nand fault given (HasCertificate g entries (view.flash nand).image)

-- the cache had no room for what was stale, and a larger one had
pub record WantsMore (g : Geometry) (capacity : ℕ) (image : Image) : Type 0 where
  pub more : capacity < stale_count g image
  pub agrees : HasCertificate g (stale_count g image) image

-- why a die whose pages need no flush has no device
abbrev pub IsUnbrought : {N : Type 0} → View N → N → Geometry → (capacity : ℕ) → PowerFault N → Type 0
IsUnbrought view nand g capacity (Refused why given) = IsStillRefused view nand g capacity why given
IsUnbrought view nand g capacity (Start given) = IsStillUnstarted view nand g capacity given
IsUnbrought view nand g capacity (Flush fault given) = ⊥

-- WHY A DIE THAT MAY HAVE BEEN STOPPED HAS NO DEVICE
abbrev pub IsUnsettled : {N : Type 0} → View N → N → Geometry → (capacity : ℕ) → PowerFault N → Type 0
IsUnsettled view nand g capacity (Refused why given) = IsStillRefused view nand g capacity why given
IsUnsettled view nand g capacity (Start given) = IsStillUnstarted view nand g capacity given
IsUnsettled view nand g capacity (Flush fault given) = IsUnflushed view nand fault given (WantsMore g capacity (view.flash nand).image)

-- THE DEVICE THAT POWER BROUGHT, of a die that may have been stopped: begun over what the die holds now, with at least so many entries. Of an honest die it holds
-- the array that the image held, and has as many entries as what is stale wants, and no more.
pub record IsBrought {N : Type 0} (view : View N) (nand : N) (g : Geometry) (capacity : ℕ) (d : Device N) : Type 0 where
  pub begun : IsDeviceBegun view d
  pub sized : d.engine.geometry ≡ g
  pub cache : capacity ≤ d.engine.mapping.capacity
  pub entries : view.honest nand ≡ true → d.engine.mapping.capacity ≡ entries_for g capacity (view.flash d.engine.nand).image
  pub array : view.honest nand ≡ true → array_in view.flash d ≡ array_of g (view.flash nand).image
  pub back : IsDieHandedBack view nand d.engine.nand

-- ---- how it came to it

-- the answers with which a flush leaves the device going: one that takes no change any more has nothing to flush
abbrev pub EndsFlush : Result (Unit {0}) DeviceFault → Type 0
EndsFlush (Ok done) = Unit {0}
EndsFlush (Err OutOfRange) = ⊥
EndsFlush (Err (ReadOnly good wanted failed)) = Unit {0}
EndsFlush (Err SequenceSpent) = Unit {0}
EndsFlush (Err OutOfMemory) = ⊥
EndsFlush (Err Damaged) = ⊥
EndsFlush (Err BusFault) = ⊥

-- A DEVICE WITH SO MANY ENTRIES WAS BEGUN over a die, by at most so many looks, and asked for one flush, which left it going: its die comes back
pub record FlushesLarger {N : Type 0} (view : View N) (g : Geometry) (many entries : ℕ) (nand given : N) : Type 0 where
  pub larger : Device N
  pub begun : IsDeviceBegun view larger
  pub sized : larger.engine.geometry ≡ g
  pub entries_are : larger.engine.mapping.capacity ≡ entries
  pub looked : LooksAtMost view g many nand larger.engine.nand
  pub pages : view.honest nand ≡ true → view.flash larger.engine.nand ≡ view.flash nand
  pub answer : Result (Unit {0}) DeviceFault
  pub ends : EndsFlush answer
  pub left : Device N
  pub upkeeps : Upkeeps view step.Flush larger answer left
  pub given_is : given ≡ left.engine.nand

-- A START WITHOUT A FLUSH: one look, with the cache that was asked for; an honest die is as it was
pub record IsStartedAtOnce {N : Type 0} (view : View N) (nand : N) (g : Geometry) (capacity : ℕ) (d : Device N) : Type 0 where
  pub cache_is : d.engine.mapping.capacity ≡ capacity
  pub looked : LooksAtMost view g 1 nand d.engine.nand
  pub pages : view.honest nand ≡ true → view.flash d.engine.nand ≡ view.flash nand

-- A START WITH ONE: of an honest die more sectors were stale than the cache has entries, and a device with as many flushed; it began over what came of that,
-- by at most two looks more. Of an honest die that was flushed to its end it has the cache that was asked for.
pub record IsStartedFlushed {N : Type 0} (view : View N) (nand : N) (g : Geometry) (capacity many : ℕ) (d : Device N) : Type 0 where
  pub stale : ℕ
  pub more : capacity < stale
  pub most : stale ≤ 65536
  pub wanted : view.honest nand ≡ true → IsTooStale g capacity (view.flash nand).image stale
  pub given : N
  pub flushes : FlushesLarger view g many stale nand given
  pub looked : LooksAtMost view g 2 given d.engine.nand
  pub pages : view.honest given ≡ true → view.flash d.engine.nand ≡ view.flash given
  pub again : view.honest nand ≡ true → flushes.answer ≡ Ok tt → d.engine.mapping.capacity ≡ capacity

-- HOW A START CAME TO ITS DEVICE: the one or the other
abbrev pub IsStarted : {N : Type 0} → View N → N → Geometry → (capacity : ℕ) → Device N → Type 0
IsStarted view nand g capacity d = IsStartedAtOnce view nand g capacity d ⊎ IsStartedFlushed view nand g capacity 2 d

-- A START THAT FAILED: a larger device was begun by at most so many looks, and asked for one flush, whatever it answered; and by at most two looks more the die came back
pub record HasTriedFlush {N : Type 0} (view : View N) (g : Geometry) (many : ℕ) (nand given : N) : Type 0 where
  pub larger : Device N
  pub begun : IsDeviceBegun view larger
  pub looked : LooksAtMost view g many nand larger.engine.nand
  pub answer : Result (Unit {0}) DeviceFault
  pub left : Device N
  pub upkeeps : Upkeeps view step.Flush larger answer left
  pub looked_after : LooksAtMost view g 2 left.engine.nand given

-- or it was looked at, and no more
abbrev pub HasTriedStart : {N : Type 0} → View N → Geometry → (many : ℕ) → (nand given : N) → Type 0
HasTriedStart view g many nand given = LooksAtMost view g many nand given ⊎ HasTriedFlush view g many nand given
