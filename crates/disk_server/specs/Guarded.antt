-- A DEVICE OF WHICH SOME SECTORS ARE LOST: they are not read until they are written again, or trimmed.
use Rattle.std.specs.Prelude.{◌≡◌, ◌≢◌, ◌⊎◌, ◌≤◌, ◌<◌, ◌+◌, ◌-◌, ◌/◌, ℕ, Bool, true, false, List, [], ◌∷◌, get_or, length, slice_index, slice_set, Result, Ok, Err, if◌then◌else◌}
use Rattle.page_layout.specs.Counter.{HasRisen}
use Rattle.nbd_stream.specs.declared.task.Task.TheVariants.{Read}
use Rattle.nbd_stream.specs.Disk.{Contents, bytes_given}
use Rattle.nbd_stream.specs.declared.fault.DiskFault.{DiskFault}
use Rattle.nbd_stream.specs.declared.fault.DiskFault.TheVariants as fault
use Rattle.disk_server.specs.declared.guarded.GuardedSectors.{GuardedSectors}

-- whether sector n is on the list
abbrev pub is_listed : {S K : Type 0} → GuardedSectors S K → (n : ℕ) → Bool
is_listed d n = get_or d.lost.items n false

-- ---- what it shows

-- what stands for a byte that is not given: no byte is it
abbrev pub no_byte : ℕ
no_byte = 256

-- a byte of a device at its place, by the sectors that are lost
abbrev pub guarded_byte : (size : ℕ) → List Bool → (place byte : ℕ) → ℕ
guarded_byte size lost place byte = if get_or lost (place / size) false then no_byte else byte

-- the bytes of a device from a place on
unfoldable pub guarded_from : (size : ℕ) → List Bool → (place : ℕ) → List ℕ → List ℕ
guarded_from size lost place [] = []
guarded_from size lost place (byte ∷ bytes) = guarded_byte size lost place byte ∷ guarded_from size lost (place + 1) bytes

-- ITS CONTENTS are those of the device, of which no byte of a lost sector is given. What is there after a stop is what is there
abbrev pub guarded_contents : {S K : Type 0} → (contents : S → Contents) → (size : S → ℕ) → GuardedSectors S K → Contents
guarded_contents contents size d = record {
  bytes = guarded_from (size d.sectors) d.lost.items 0 (contents d.sectors).bytes;
  durable = guarded_from (size d.sectors) d.lost.items 0 (contents d.sectors).bytes;
}

-- A BYTE IS THE DEVICE'S, OR NONE where its sector is lost
abbrev pub GuardedByteLaw : Type 0
GuardedByteLaw = (size : ℕ) (lost : List Bool) (bytes : List ℕ) (place : ℕ) → place < length bytes
    → slice_index (guarded_from size lost 0 bytes) place ≡ guarded_byte size lost place (slice_index bytes place)

-- SO NO READ OF A LOST SECTOR IS ANSWERED WITHOUT AN ERROR: what would be given of its range is above each byte, and so no list of bytes is it
abbrev pub GuardedReadLaw : Type 0
GuardedReadLaw = (size : ℕ) (lost : List Bool) (bytes : List ℕ) (offset count place : ℕ) (given : List ℕ) → offset + count ≤ length bytes → offset ≤ place → place < offset + count
    → get_or lost (place / size) false ≡ true → given ≡ bytes_given (Read offset count) (guarded_from size lost 0 bytes) → 255 < slice_index given (place - offset)

-- ---- its list

-- nothing but the device is another
pub record KeepsList {S K : Type 0} (old new : GuardedSectors S K) : Type 0 where
  pub keeper_same : new.keeper ≡ old.keeper
  pub lost_same : new.lost ≡ old.lost
  pub failed_same : new.failed ≡ old.failed

-- NOTHING IS ASKED of the device, nor of the keeper of its list
abbrev pub IsRefusedUnasked : {S K : Type 0} → (old : GuardedSectors S K) → Result (Unit {0}) DiskFault → (new : GuardedSectors S K) → Type 0
IsRefusedUnasked old result new = (result ≡ Err fault.Failed) × (new ≡ old)

-- it is read as the device is, or nothing is asked
abbrev pub ReadsGuarded : {S K : Type 0} → (reads : S → S → Type 0) → (old new : GuardedSectors S K) → Type 0
ReadsGuarded reads old new = (new ≡ old) ⊎ (reads old.sectors new.sectors × KeepsList old new)

-- WHAT A CHANGE ANSWERS, by the device's answer: the same; or it was done, and the list behind it was not kept
abbrev pub IsAnswerOf : {S K : Type 0} → (answer result : Result (Unit {0}) DiskFault) → (new : GuardedSectors S K) → Type 0
IsAnswerOf answer result new = (result ≡ answer) ⊎ ((answer ≡ Ok tt) × (result ≡ Err fault.Failed) × (new.failed ≡ true))

-- a change is one of the device, whose fault is told; after a list that was not kept nothing is asked
abbrev pub ChangesGuarded : {S K : Type 0} → (changes : S → Result (Unit {0}) DiskFault → S → Type 0) → (old : GuardedSectors S K) → Result (Unit {0}) DiskFault → (new : GuardedSectors S K) → Type 0
ChangesGuarded changes old result new =
    ((old.failed ≡ true) × IsRefusedUnasked old result new)
    ⊎ ((answer : Result (Unit {0}) DiskFault) × changes old.sectors answer new.sectors × IsAnswerOf answer result new)

-- A FLUSH AND A REST ARE ONE OF THE DEVICE, as this says of such a one, and the list stays; after a list that was not kept nothing is asked
abbrev pub PassesOn : {S K : Type 0} → (is : S → Result (Unit {0}) DiskFault → S → Type 0) → GuardedSectors S K → Result (Unit {0}) DiskFault → GuardedSectors S K → Type 0
PassesOn is old result new =
    ((old.failed ≡ true) × IsRefusedUnasked old result new)
    ⊎ ((old.failed ≡ false) × is old.sectors result new.sectors × KeepsList old new)

-- SECTOR n IS TAKEN OFF THE LIST, AND THE REST OF THE LIST LASTS
pub record Heals {S K : Type 0} (kept : K → List Bool) (n : ℕ) (old new : GuardedSectors S K) : Type 0 where
  pub was : is_listed old n ≡ true
  pub taken : new.lost.items ≡ slice_set old.lost.items n false
  pub lasts : kept new.keeper ≡ new.lost.items
  pub failed_same : new.failed ≡ old.failed

-- AFTER A CHANGE OF SECTOR n THAT IS DONE it is not on the list: it was not, or it was taken off
abbrev pub HealsIfListed : {S K : Type 0} → (kept : K → List Bool) → (n : ℕ) → (old new : GuardedSectors S K) → Type 0
HealsIfListed kept n old new = ((is_listed old n ≡ false) × KeepsList old new) ⊎ Heals kept n old new

-- AFTER ONE THAT FAILED the list is as it was; or it was not kept, which was counted, and nothing is asked any more
abbrev pub KeepsOrFails : {S K : Type 0} → (failed : K → ℕ) → (old new : GuardedSectors S K) → Type 0
KeepsOrFails failed old new = KeepsList old new ⊎ ((new.failed ≡ true) × HasRisen (failed old.keeper) (failed new.keeper))

-- ---- laws of its list

-- A SECTOR THAT WAS WRITTEN IS NOT LOST, AND NO OTHER LEAVES THE LIST OR COMES ONTO IT; where it was on the list, the list without it lasts
abbrev pub HealedLaw : (S : Type 0) → {K : Type 0} → (kept : K → List Bool) → Type 0
HealedLaw S {K} kept = (n m : ℕ) (old new : GuardedSectors S K) → HealsIfListed kept n old new
    → (is_listed new n ≡ false) × (m ≢ n → is_listed new m ≡ is_listed old m) × (is_listed old n ≡ true → kept new.keeper ≡ new.lost.items)

-- ONCE A LIST WAS NOT KEPT NOTHING IS ASKED of the device: a sector that its list names no more would be lost again as the disk is next opened
abbrev pub UnkeptLaw : {S K : Type 0} → (failed : K → ℕ) → (is : S → Result (Unit {0}) DiskFault → S → Type 0) → Type 0
UnkeptLaw {S} {K} failed is = (old mid new : GuardedSectors S K) (result : Result (Unit {0}) DiskFault) → failed old.keeper < failed mid.keeper
    → KeepsOrFails failed old mid → PassesOn is mid result new → (result ≡ Err fault.Failed) × (new ≡ mid)
