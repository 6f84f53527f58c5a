-- WHAT IS ASKED OF THE DEVICE OF A STORE in a session, through what guards its lost sectors and what opens it anew.
use Rattle.std.specs.Prelude.{◌≡◌, Bool, false, true, ℕ, List, [], Some, Result}
use mathlib.Core.Logic.{inl, inr}
use Rattle.page_layout.specs.Flash.{Operation}
use Rattle.onfi_cycles.specs.Driver.{DriverState}
use Rattle.file_die.specs.Die.{FileState}
use Rattle.file_die.specs.Store.{Held}
use Rattle.nbd_stream.specs.declared.fault.DiskFault.{DiskFault}
use Rattle.nbd_stream.specs.declared.fault.DiskFault.TheVariants as fault
use Rattle.nbd_stream.specs.Through.{Through}
use Rattle.ftl_device.specs.declared.device.Device.{Device}
use Rattle.disk_server.specs.declared.guarded.GuardedSectors.{GuardedSectors}
use Rattle.disk_server.specs.Asked.{AsksCall}
use Rattle.disk_server.specs.Disk.{ChangesOne, IsDisk, holds}
use Rattle.disk_server.specs.Guarded.{ChangesGuarded, PassesOn, ReadsGuarded}
use Rattle.disk_server.specs.Opened.{is_honest_in, view_in}
use Rattle.disk_server.specs.Reopened.{AsksDevice, ReadsDevice, Reopened, changes_in, changes_of, clears_of, flushes_of, reads_of, rests_of}
use Rattle.disk_laws.specs.CallsMade.{CallMade, IsRunOf, calls_made, each_asked, this_call}
use Rattle.disk_laws.specs.Runs.{AsksOneOf, DeviceCalls, IsDiskCall, calls_of}

-- what is asked of a guarded device, and of one that is opened anew where its store was full
abbrev pub AsksGuarded : {S K : Type 0} → (reads : S → S → Type 0) → (changes flushes rests : S → Result (Unit {0}) DiskFault → S → Type 0) → (old new : GuardedSectors S K) → Type 0
AsksGuarded reads changes flushes rests = AsksOneOf (ReadsGuarded reads) (ChangesGuarded changes) (PassesOn flushes) (PassesOn rests)

abbrev pub AsksReopened : {S : Type 0} → (S → Held) → (honest full : S → Bool) → (failed : S → ℕ) → (old new : Reopened S) → Type 0
AsksReopened held honest full failed = AsksOneOf (ReadsDevice (reads_of held honest failed)) (changes_in held honest full failed)
    (AsksDevice held honest full failed (flushes_of held honest failed) fault.Failed) (AsksDevice held honest full failed (rests_of held honest failed) fault.Failed)

-- both
abbrev pub AsksStored : {S K : Type 0} → (S → Held) → (honest full : S → Bool) → (failed : S → ℕ) → (old new : GuardedSectors (Reopened S) K) → Type 0
AsksStored held honest full failed = AsksGuarded (ReadsDevice (reads_of held honest failed)) (changes_in held honest full failed)
    (AsksDevice held honest full failed (flushes_of held honest failed) fault.Failed) (AsksDevice held honest full failed (rests_of held honest failed) fault.Failed)

-- ---- what is asked below

-- WHAT A CALL OF A GUARDED DEVICE ASKS OF IT: the very call that is passed on, or nothing
unfoldable pub sectors_asked : {S K : Type 0} → (reads : S → S → Type 0) → (changes flushes rests : S → Result (Unit {0}) DiskFault → S → Type 0) → (old new : GuardedSectors S K) → AsksGuarded reads changes flushes rests old new
    → List (CallMade (AsksOneOf reads changes flushes rests))
unfolding AsksCall
sectors_asked reads changes flushes rests old new (inl (inl (inl same))) = []
sectors_asked reads changes flushes rests old new (inl (inl (inr asked))) = this_call (AsksOneOf reads changes flushes rests) old.sectors new.sectors (inl (inl asked.0))
sectors_asked reads changes flushes rests old new (inl (inr (inl (result, inl over)))) = []
sectors_asked reads changes flushes rests old new (inl (inr (inl (result, inr asked)))) = this_call (AsksOneOf reads changes flushes rests) old.sectors new.sectors (inl (inr (inl (asked.0, asked.1))))
sectors_asked reads changes flushes rests old new (inl (inr (inr (result, inl over)))) = []
sectors_asked reads changes flushes rests old new (inl (inr (inr (result, inr asked)))) = this_call (AsksOneOf reads changes flushes rests) old.sectors new.sectors (inl (inr (inr (result, asked.1))))
sectors_asked reads changes flushes rests old new (inr (result, inl over)) = []
sectors_asked reads changes flushes rests old new (inr (result, inr asked)) = this_call (AsksOneOf reads changes flushes rests) old.sectors new.sectors (inr (result, asked.1))

-- WHAT A CALL ASKS OF THE DEVICE THAT IS THERE: one call, from it to what that left, or nothing where it is gone; by what a call of it is
abbrev pub one_asked : {S : Type 0} → (held : S → Held) → (honest full : S → Bool) → (failed : S → ℕ) → (asks : Device (DriverState (FileState S)) → Result (Unit {0}) DiskFault → Device (DriverState (FileState S)) → Type 0)
    → ((d left : Device (DriverState (FileState S))) (answer : Result (Unit {0}) DiskFault) → asks d answer left → IsDiskCall (view_in held honest failed) d left) → (told : DiskFault) → (old : Reopened S)
    → (result : Result (Unit {0}) DiskFault) → (new : Reopened S) → AsksDevice held honest full failed asks told old result new → List (CallMade (IsDiskCall (view_in held honest failed)))
one_asked held honest full failed asks so told old result new (inl gone) = []
one_asked held honest full failed asks so told old result new (inr is) = this_call (IsDiskCall (view_in held honest failed)) is.device is.left (so is.device is.left is.answer is.asked)

unfoldable pub device_asked : {S : Type 0} → (held : S → Held) → (honest full : S → Bool) → (failed : S → ℕ) → (old new : Reopened S) → AsksReopened held honest full failed old new
    → List (CallMade (IsDiskCall (view_in held honest failed)))
unfolding AsksCall changes_in ChangesOne
device_asked held honest full failed old new (inl (inl (inl gone))) = []
device_asked held honest full failed old new (inl (inl (inr is))) = this_call (IsDiskCall (view_in held honest failed)) is.device is.left (inl (inl is.asked))
device_asked held honest full failed old new (inl (inr (inl (result, (n, inl (command, is)))))) =
    one_asked held honest full failed (changes_of held honest failed n command) (λ d left answer asks. inl (inr (inl (answer, (n, inl (command, asks)))))) fault.NoSpace old result new is
device_asked held honest full failed old new (inl (inr (inl (result, (n, inr is))))) =
    one_asked held honest full failed (clears_of held honest failed n) (λ d left answer asks. inl (inr (inl (answer, (n, inr asks))))) fault.NoSpace old result new is
device_asked held honest full failed old new (inl (inr (inr (result, is)))) =
    one_asked held honest full failed (flushes_of held honest failed) (λ d left answer asks. inl (inr (inr (answer, asks)))) fault.Failed old result new is
device_asked held honest full failed old new (inr (result, is)) =
    one_asked held honest full failed (rests_of held honest failed) (λ d left answer asks. inr (answer, asks)) fault.Failed old result new is

-- what calls ask of the device of a store, one after another; and what those ask of it that are made through what guards its lost sectors
abbrev pub devices_asked : {S : Type 0} → (held : S → Held) → (honest full : S → Bool) → (failed : S → ℕ) → List (CallMade (AsksReopened held honest full failed)) → List (CallMade (IsDiskCall (view_in held honest failed)))
devices_asked held honest full failed calls = each_asked (AsksReopened held honest full failed) (IsDiskCall (view_in held honest failed)) (device_asked held honest full failed) calls

abbrev pub guarded_asked : {S K : Type 0} → (reads : S → S → Type 0) → (changes flushes rests : S → Result (Unit {0}) DiskFault → S → Type 0) → (old new : GuardedSectors S K)
    → Through (AsksGuarded reads changes flushes rests) old new → List (CallMade (AsksOneOf reads changes flushes rests))
guarded_asked reads changes flushes rests old new asked =
    each_asked (AsksGuarded reads changes flushes rests) (AsksOneOf reads changes flushes rests) (sectors_asked reads changes flushes rests) (calls_made (AsksGuarded reads changes flushes rests) old new asked)

abbrev pub stored_asked : {S K : Type 0} → (held : S → Held) → (honest full : S → Bool) → (failed : S → ℕ) → (old new : GuardedSectors (Reopened S) K) → Through (AsksStored held honest full failed) old new
    → List (CallMade (IsDiskCall (view_in held honest failed)))
stored_asked held honest full failed old new asked =
    devices_asked held honest full failed (guarded_asked (ReadsDevice (reads_of held honest failed)) (changes_in held honest full failed) (AsksDevice held honest full failed (flushes_of held honest failed) fault.Failed)
    (AsksDevice held honest full failed (rests_of held honest failed) fault.Failed) old new asked)

-- ---- laws

-- A GUARDED DEVICE IS ASKED just what is passed on to it, call by call, and nothing else
abbrev pub GuardedSessionLaw : {S : Type 0} → (K : Type 0) → (reads : S → S → Type 0) → (changes flushes rests : S → Result (Unit {0}) DiskFault → S → Type 0) → Type 0
GuardedSessionLaw {S} K reads changes flushes rests = (old new : GuardedSectors S K) (asked : Through (AsksGuarded reads changes flushes rests) old new)
    → IsRunOf (AsksOneOf reads changes flushes rests) (guarded_asked reads changes flushes rests old new asked) old.sectors new.sectors

-- A DEVICE THAT WAS NOT OPENED ANEW, and is there, was there from the first, and was asked just the calls that these were
abbrev pub ReopenedSessionLaw : {S : Type 0} → (S → Held) → (honest full : S → Bool) → (failed : S → ℕ) → Type 0
ReopenedSessionLaw {S} held honest full failed = (old new : Reopened S) (asked : Through (AsksReopened held honest full failed) old new) → new.reopened ≡ false
    → (last : Device (DriverState (FileState S))) → new.device ≡ Some last
    → (first : Device (DriverState (FileState S))) × (old.device ≡ Some first)
    × IsRunOf (IsDiskCall (view_in held honest failed)) (devices_asked held honest full failed (calls_made (AsksReopened held honest full failed) old new asked)) first last

-- SO ALL THAT A SESSION ASKS of the disk in a store, guarded, and not opened anew, is calls of its device one after another, these very ones, as long as that holds its array
abbrev pub StoreSessionLaw : {S : Type 0} → (K : Type 0) → (S → Held) → (honest full : S → Bool) → (failed : S → ℕ) → Type 0
StoreSessionLaw {S} K held honest full failed = (old new : GuardedSectors (Reopened S) K) (asked : Through (AsksStored held honest full failed) old new) → new.sectors.reopened ≡ false
    → (last : Device (DriverState (FileState S))) → new.sectors.device ≡ Some last → holds (is_honest_in honest) last ≡ true
    → (first : Device (DriverState (FileState S))) × (old.sectors.device ≡ Some first)
    × (IsDisk (view_in held honest failed) first → (log : List Operation) × (run : DeviceCalls (view_in held honest failed) first log last)
    × (calls_made (IsDiskCall (view_in held honest failed)) first last (calls_of (view_in held honest failed) first log last run) ≡ stored_asked held honest full failed old new asked))
