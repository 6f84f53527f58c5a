-- WHAT IS FOUND OF A DISK WHERE A FAULT OF ITS DIE ENDED A CALL of its device, behind other calls; and of the store of such a disk.
use Rattle.std.specs.Prelude.{◌≡◌, ◌⊎◌, ℕ, Bool, true, List, [], ◌∷◌, ◌++◌, Result, Err}
use Rattle.page_layout.specs.View.{View}
use Rattle.page_layout.specs.DieCalls.{AsksOnly}
use Rattle.page_layout.specs.Page.{Image}
use Rattle.page_layout.specs.Flash.{Operation}
use Rattle.page_layout.specs.Recording.{EndsAt}
use Rattle.onfi_cycles.specs.Driver.{DriverState}
use Rattle.promises.specs.Step.{Command, Flush, Read, Turn}
use Rattle.promises.specs.Stop.{MayLeave}
use Rattle.file_die.specs.Die.{FileState}
use Rattle.file_die.specs.Store.{Held}
use Rattle.nbd_stream.specs.declared.fault.DiskFault.{DiskFault}
use Rattle.collection.specs.Safe.{ram}
use Rattle.collection.specs.Stops.{room_of}
use Rattle.ftl_device.specs.declared.device.Device.{Device}
use Rattle.ftl_device.specs.declared.fault.DeviceFault.TheVariants.{BusFault}
use Rattle.ftl_device.specs.Changes.{Changes, IsCallCut, Upkeeps}
use Rattle.ftl_device.specs.Stopped.{SurvivesCut}
use Rattle.disk_server.specs.Disk.{AsksChange, AsksFlush, AsksTurn, IsDisk, holds}
use Rattle.disk_server.specs.Opened.{view_in}
use Rattle.disk_laws.specs.Driven.{AddsOrErases, DriverCalls, DriverFails, StandsReady, store_behind}
use Rattle.disk_laws.specs.Lost.{MayLose}
use Rattle.disk_laws.specs.Runs.{DeviceCalls, IsCutIn, image_on}
use Rattle.disk_laws.specs.StoreRuns.{ErasesPass, StandsClear, StandsSynced}

-- HOW A CALL ENDS WITH A FAULT OF THE DIE, as its contract says: a change of a sector; or a flush, a turn or a migration, which change none; or a read, which has nothing at hand. Each asks the die by calls of it alone
abbrev pub EndsByFault : {N : Type 0} → View N → Command → (old new : Device N) → Type 0
EndsByFault die command old new = ((n : ℕ) × Changes die n command old (Err BusFault) new) ⊎ Upkeeps die command old (Err BusFault) new
    ⊎ ((sector : ℕ) × (command ≡ Read sector) × EndsAt [] (die.recorded old.engine.nand) (die.recorded new.engine.nand) × AsksOnly die.called old.engine.nand new.engine.nand)

-- A CALL THAT A FAULT OF THE DIE ENDED, of a device that held its array until then
pub record Faults {N : Type 0} (die : View N) (command : Command) (old new : Device N) : Type 0 where
  pub disk : IsDisk die old
  pub held : holds die.honest old ≡ true
  pub ends : EndsByFault die command old new

-- IT IS CUT SHORT, where these pages are found: its operations may leave them of the pages from before it, and each call before it was whole; they mount, with the array from before it, or of a change of a sector the one that it
-- would have left
pub record CutInLast {N : Type 0} (die : View N) (old last : Device N) (command : Command) (log : List Operation) (found : Image) : Type 0 where
  pub cut : MayLeave old.engine.geometry (image_on die last) log found
  pub survives : SurvivesCut old.engine.geometry (room_of (ram old.engine)) command (image_on die last) found

-- ONE CALL OF A DRIVER THAT THE FILE REFUSED, by what is at hand; or none, where nothing is
abbrev pub RefusesHand : {S : Type 0} → (S → Held) → (honest : S → Bool) → (failed : S → ℕ) → (old : DriverState (FileState S)) → List Operation → (new : DriverState (FileState S)) → Type 0
RefusesHand held honest failed old [] new = new ≡ old
RefusesHand held honest failed old (op ∷ ops) new = DriverFails held honest failed old (op ∷ ops) new

-- CALLS OF A DRIVER UP TO A FAULT, AND READS ALONE BEHIND IT: each program and erase was answered, and they did these operations; the next was refused, with its operation at hand, or there was none; and from there on each call was a
-- read, answered or not, so the store stays as it was left then
pub record CallsToFault {S : Type 0} (held : S → Held) (honest : S → Bool) (failed : S → ℕ) (old : DriverState (FileState S)) (log hand : List Operation) (new : DriverState (FileState S)) : Type 0 where
  pub mid : DriverState (FileState S)
  pub behind : DriverState (FileState S)
  pub calls : DriverCalls held honest failed old log mid
  pub refuses : RefusesHand held honest failed mid hand behind
  pub reads : DriverCalls held honest failed behind [] new
  pub same : store_behind held new ≡ store_behind held behind

-- ---- laws

-- A CHANGE, A FLUSH AND A REST OF THE DISK are such a call, where the device answered the last with that fault
abbrev pub DiskFaultLaw : {N : Type 0} → View N → Type 0
DiskFaultLaw {N} die = (old new : Device N) (result : Result (Unit {0}) DiskFault) → IsDisk die old → holds die.honest old ≡ true
    → ((n : ℕ) (command : Command) (asks : AsksChange die n command old result new) → asks.answer ≡ Err BusFault → Faults die command old new)
    × ((asks : AsksFlush die old result new) → asks.answer ≡ Err BusFault → Faults die Flush old new)
    × ((asks : AsksTurn die old result new) → asks.answer ≡ Err BusFault → Faults die Turn old new)

-- the record of the die tells what such a call did and what it had at hand, and whatever the die is left with by these is so
abbrev pub FaultIsCutLaw : {N : Type 0} → View N → Type 0
FaultIsCutLaw {N} die = (old new : Device N) (command : Command) → Faults die command old new → IsCallCut die command old new

-- CALLS ONE AFTER ANOTHER, AND A LAST ONE THAT A FAULT OF THE DIE ENDED: whatever the die is left with, by the operations of all of them and the one at hand, mounts, and each call that had ended is in it, and the one at hand
-- whole or not at all
abbrev pub CutCallLaw : {N : Type 0} → View N → Type 0
CutCallLaw {N} die = (old last new : Device N) (log : List Operation) (command : Command) (found : Image) (run : DeviceCalls die old log last) → Faults die command last new → (cut : IsCallCut die command last new)
    → MayLeave old.engine.geometry (image_on die old) (log ++ (cut.log ++ cut.at_hand)) found
    → IsCutIn die old log last run found ⊎ CutInLast die old last command (cut.log ++ cut.at_hand) found

-- and what is found so is what may be left by the operations of all of them
abbrev pub CutCallLeavesLaw : {N : Type 0} → View N → Type 0
CutCallLeavesLaw {N} die = (old last : Device N) (log more : List Operation) (command : Command) (found : Image) (run : DeviceCalls die old log last)
    → IsCutIn die old log last run found ⊎ CutInLast die old last command more found → MayLeave old.engine.geometry (image_on die old) (log ++ more) found

-- OVER A STORE THE RECORD TELLS JUST WHAT THE DRIVER WAS ASKED in such a call, where it stood ready and nothing was at hand: what was done are the operations that its file answered, and at hand is the one that the file refused, and
-- nothing was programmed or erased behind that
abbrev pub ToldCutLaw : {S : Type 0} → (S → Held) → (honest : S → Bool) → (failed : S → ℕ) → Type 0
ToldCutLaw {S} held honest failed = (old new : Device (DriverState (FileState S))) (command : Command) → StandsReady held old.engine.nand → old.engine.nand.told.at_hand ≡ []
    → Faults (view_in held honest failed) command old new → (cut : IsCallCut (view_in held honest failed) command old new)
    → CallsToFault held honest failed old.engine.nand cut.log cut.at_hand new.engine.nand

-- SO FOR THE STORE, behind a call that a fault of its die ended: its pages are an image that mounts, with the array from before that call, or of a change of a sector from after it; and the calls before it are in it
abbrev pub StoreCutLaw : {S : Type 0} → (S → Held) → (honest : S → Bool) → (failed : S → ℕ) → Type 0
StoreCutLaw {S} held honest failed = (old last new : Device (DriverState (FileState S))) (log : List Operation) (command : Command) → DeviceCalls (view_in held honest failed) old log last → StandsClear held honest failed old
    → Faults (view_in held honest failed) command last new → (cut : IsCallCut (view_in held honest failed) command last new)
    → CutInLast (view_in held honest failed) old last command (cut.log ++ cut.at_hand) (store_behind held new.engine.nand).pages

-- and what lasts of it, where the power goes behind that and all pages had lasted at first, is what a loss of power may leave by the operations of all of them and the one at hand: those of the last call each program a row without a
-- record, and no erase failed
abbrev pub StoreCutLosesLaw : {S : Type 0} → (S → Held) → (honest : S → Bool) → (failed : S → ℕ) → Type 0
StoreCutLosesLaw {S} held honest failed = (old last new : Device (DriverState (FileState S))) (log : List Operation) (command : Command) → DeviceCalls (view_in held honest failed) old log last → StandsSynced held honest failed old
    → ErasesPass log → Faults (view_in held honest failed) command last new → (cut : IsCallCut (view_in held honest failed) command last new)
    → AddsOrErases old.engine.geometry.pages (image_on (view_in held honest failed) last) (cut.log ++ cut.at_hand)
    → MayLose old.engine.geometry (image_on (view_in held honest failed) old) (log ++ (cut.log ++ cut.at_hand)) (store_behind held new.engine.nand).durable
