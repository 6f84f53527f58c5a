-- What the definitions of a device as a disk come to.
use Rattle.std.specs.Prelude.{◌≡◌, ◌<◌, ◌+◌, ◌*◌, ◌↔◌, ◌⊎◌, ℕ, Bool, true, [], length, get_or, slice_range, Ok, Err, None}
use Rattle.page_layout.specs.View.{View}
use Rattle.page_layout.specs.Array.{marks}
use Rattle.page_layout.specs.OneArray.{AreBelow}
use Rattle.image_check.specs.Stale.{stale_sectors}
use Rattle.nbd_stream.specs.declared.fault.DiskFault.TheVariants as fault
use Rattle.ftl_device.specs.declared.device.Device.{Device}
use Rattle.ftl_device.specs.declared.fault.DeviceFault.{DeviceFault}
use Rattle.ftl_device.specs.declared.fault.DeviceFault.TheVariants.{OutOfMemory, SequenceSpent, ReadOnly}
use Rattle.ftl_device.specs.Calls.{array_in, stop_of}
use Rattle.disk_server.specs.Disk.{AsksFlush, IsDisk, change_fault, contents_of, flush_answer, holds, takes_changes}

-- the bytes are as many as all sectors have, whether the device holds its array or not
abbrev pub DiskLengthLaw : {N : Type 0} → View N → Type 0
DiskLengthLaw {N} view = (d : Device N) → IsDisk view d
    → length (contents_of view d).bytes ≡ d.engine.geometry.sectors * d.engine.geometry.data_bytes

-- SECTOR n OF THE ARRAY is the range of the bytes from n sectors on, as long as the device holds it
abbrev pub SectorRangeLaw : {N : Type 0} → View N → Type 0
SectorRangeLaw {N} view = (d : Device N) (n : ℕ) → IsDisk view d → holds view.honest d ≡ true → n < d.engine.geometry.sectors
    → slice_range (contents_of view d).bytes (n * d.engine.geometry.data_bytes) (n * d.engine.geometry.data_bytes + d.engine.geometry.data_bytes)
    ≡ get_or (array_in view.flash d) n []

-- what would be there after a stop is what is there
abbrev pub DurableLaw : {N : Type 0} → View N → Type 0
DurableLaw {N} view = (d : Device N) → (contents_of view d).durable ≡ (contents_of view d).bytes

-- a device holds its array just where its die is honest and it was not stopped
abbrev pub HoldsLaw : {N : Type 0} → (N → Bool) → Type 0
HoldsLaw {N} honest = (d : Device N) → (holds honest d ≡ true) ↔ ((honest d.engine.nand ≡ true) × (stop_of d.engine.fault ≡ None))

-- WHAT A FAULT SAYS OF THE DEVICE'S: there was no memory for the change; or none is taken any more, after which a flush is answered as one that
-- is done
abbrev pub NoSpaceLaw : Type 0
NoSpaceLaw = (e : DeviceFault) → (change_fault e ≡ fault.NoSpace) ↔ (e ≡ OutOfMemory)

abbrev pub ReadOnlyFlushLaw : Type 0
ReadOnlyFlushLaw = (e : DeviceFault) → (change_fault e ≡ fault.ReadOnly) ↔ (flush_answer (Err e) ≡ Ok tt)

-- so it is where the device is read-only, or has given out its last sequence, and nowhere else
abbrev pub ClosedLaw : Type 0
ClosedLaw = (e : DeviceFault) → (change_fault e ≡ fault.ReadOnly)
    ↔ ((e ≡ SequenceSpent) ⊎ ((good : ℕ) × (wanted : ℕ) × (failed : ℕ) × (e ≡ ReadOnly good wanted failed)))

-- ---- what a mark says of a device's pages

-- ALL SOUND PAGES LIE BELOW THE NEXT SEQUENCE: so a mark that is written with it after a sync is ahead of no page, and each page that is programmed later has that sequence or a later one
abbrev pub BelowLaw : {N : Type 0} → View N → Type 0
BelowLaw {N} view = (d : Device N) → IsDisk view d → holds view.honest d ≡ true → AreBelow (marks (view.flash d.engine.nand).image) d.engine.next

-- A FLUSH THAT IS ANSWERED AS DONE LEFT NO SECTOR STALE, where the device takes changes after it: its translation pages name the newest page of each
abbrev pub NoneStaleAfterFlushLaw : {N : Type 0} → (view : View N) → Type 0
NoneStaleAfterFlushLaw {N} view = (old new : Device N) → IsDisk view old → IsDisk view new → AsksFlush view old (Ok tt) new
    → holds view.honest old ≡ true → takes_changes new ≡ true → stale_sectors old.engine.geometry (view.flash new.engine.nand).image ≡ []
