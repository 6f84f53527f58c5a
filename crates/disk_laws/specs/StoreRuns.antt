-- FROM CALLS OF A DEVICE DOWN TO WHAT LASTS OF ITS STORE.
use Rattle.std.specs.Prelude.{◌≡◌, ◌⊎◌, ◌+◌, ◌≤◌, ℕ, Bool, true, List, [], ◌∷◌}
use Rattle.page_layout.specs.Flash.{Operation, Program, Erase}
use Rattle.onfi_cycles.specs.Driver.{DriverState}
use Rattle.file_die.specs.Die.{FileState}
use Rattle.file_die.specs.Store.{Held, AreImages}
use Rattle.image_laws.specs.Power.{LosesSince}
use Rattle.collection.specs.Safe.{ram}
use Rattle.collection.specs.Stops.{room_of}
use Rattle.ftl_device.specs.declared.device.Device.{Device}
use Rattle.disk_server.specs.Disk.{IsDisk}
use Rattle.disk_server.specs.Opened.{view_in}
use Rattle.disk_laws.specs.AskedRuns.{IsInRun}
use Rattle.disk_laws.specs.Driven.{StandsReady, store_behind}
use Rattle.disk_laws.specs.Runs.{DeviceCalls, HasNoCall, IsFoundAfterLoss, image_on}

-- no erase in a log failed
abbrev pub ErasesPass : List Operation → Type 0
ErasesPass [] = Unit {0}
ErasesPass (Program row page passed left ∷ log) = ErasesPass log
ErasesPass (Erase block passed left ∷ log) = (passed ≡ true) × ErasesPass log

-- A DEVICE OF AN HONEST STORE, in whose record nothing is at hand, as behind each call that its die answered, and as it is opened: `open_clear` yields it
pub record StandsClear {S : Type 0} (held : S → Held) (honest : S → Bool) (failed : S → ℕ) (d : Device (DriverState (FileState S))) : Type 0 where
  pub disk : IsDisk (view_in held honest failed) d
  pub ready : StandsReady held d.engine.nand
  pub is_honest : honest d.engine.nand.bus.store ≡ true
  pub images : AreImages (store_behind held d.engine.nand)
  pub clear : d.engine.nand.told.at_hand ≡ []

-- and all of whose pages last, as after a sync
pub record StandsSynced {S : Type 0} (held : S → Held) (honest : S → Bool) (failed : S → ℕ) (d : Device (DriverState (FileState S))) : Type 0 where
  pub stands : StandsClear held honest failed d
  pub lasted : (store_behind held d.engine.nand).durable ≡ (store_behind held d.engine.nand).pages

-- ---- law

-- THE POWER GOES between two calls of the driver, in calls of the device one after another since all pages lasted, of which no erase failed: what lasts of the store then is what `LostRunLaw` says of the disk
abbrev pub StoreRunLaw : {S : Type 0} → (S → Held) → (honest : S → Bool) → (failed : S → ℕ) → Type 0
StoreRunLaw {S} held honest failed = (old new : Device (DriverState (FileState S))) (log : List Operation) (run : DeviceCalls (view_in held honest failed) old log new) (mid : DriverState (FileState S))
    → room_of (ram old.engine) ≤ 65536 → StandsSynced held honest failed old → ErasesPass log → IsInRun (view_in held honest failed) old log new run mid
    → (HasNoCall (view_in held honest failed) old log new run × LosesSince (image_on (view_in held honest failed) old) (image_on (view_in held honest failed) old) (store_behind held mid).durable)
    ⊎ IsFoundAfterLoss (view_in held honest failed) old log new run (store_behind held mid).durable
