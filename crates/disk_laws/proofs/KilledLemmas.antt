-- What is found of a disk where its server is killed inside a call.
use Rattle.std.proofs.Common.{◌≡◌, ◌≢◌, inl, inr, true, [], ◌∷◌, ◌++◌, Some, Result, Ok, Err, refl, sym, ap, ◌∙◌, subst}
use Rattle.std.specs.Prelude.{◌⊎◌}
use Rattle.page_layout.specs.View.{View}
use Rattle.page_layout.specs.declared.geometry.Geometry.{Geometry}
use Rattle.page_layout.specs.Page.{Image}
use Rattle.page_layout.specs.Array.{array_of}
use Rattle.page_layout.proofs.FlashLemmas.{geometry-Leads}
use Rattle.promises.specs.Step.{Command, Flush, Turn}
use Rattle.promises.specs.Stop.{MayLeave}
use Rattle.promises.proofs.StopLemmas.{between, torn_in_one_law}
use Rattle.collection.specs.Stops.{room_of}
use Rattle.collection.specs.Safe.{ram}
use Rattle.collection.proofs.Stops.{one_gain}
use Rattle.file_die.specs.Store.{Held}
use Rattle.nbd_stream.specs.declared.fault.DiskFault.{DiskFault}
use Rattle.ftl_device.specs.declared.device.Device.{Device}
use Rattle.ftl_device.specs.declared.fault.DeviceFault.{DeviceFault}
use Rattle.ftl_device.specs.declared.fault.DeviceFault.TheVariants.{BusFault}
use Rattle.ftl_device.specs.Changes.{Logs, RefusesCall}
use Rattle.ftl_device.specs.Stopped.{Survives, changes_sector}
use Rattle.disk_server.specs.Flat.{flat}
use Rattle.disk_server.specs.Disk.{contents_of, change_answer}
use Rattle.disk_laws.specs.Killed.{AreFoundIn, FoundTornLaw, HoldsThrough, MountsFor, bytes_found, KilledChangeLaw, KilledFlushLaw, KilledTurnLaw, FoundAsItWasLaw, StoreTellsLaw}
use Rattle.disk_server.proofs.Calls.{no_bus}
use Rattle.disk_server.proofs.Holding.{parts, held}

module _ {N : Type 0} (view : View N) (old new : Device N) (found : Image) (call : HoldsThrough view old new) (at : AreFoundIn view old new found) where
  -- what the call may leave by its own log is what it may leave by its record
  survives : (command : Command) (answer : Result (Unit {0}) DeviceFault) → Logs view command old answer new
      → Survives old.engine.geometry (room_of (ram old.engine)) command answer (view.flash old.engine.nand).image (view.flash new.engine.nand).image found
  survives command answer logs =
      let one : at.log ≡ logs.went.log = one_gain (view.recorded old.engine.nand) (view.recorded new.engine.nand) at.log logs.went.log at.told at.records logs.went.records in
      logs.stopped (call.was.well call.held) at.told found (subst (λ l. MayLeave old.engine.geometry (view.flash old.engine.nand).image l found) one at.left)

  went_on : (answer : Result (Unit {0}) DeviceFault) → RefusesCall view.failed old answer new → answer ≢ Err BusFault
  went_on answer refuses = no_bus (ram old.engine) (ram new.engine) answer refuses.says (parts view.honest new call.holds_on).1

  its_die : view.honest old.engine.nand ≡ true
  its_die = (parts view.honest old call.held).0

  geometry_same : (command : Command) (answer : Result (Unit {0}) DeviceFault) → Logs view command old answer new → new.engine.geometry ≡ old.engine.geometry
  geometry_same command answer logs =
      sym call.is.device.engine.geometry ∙ geometry-Leads (view.flash old.engine.nand) (view.flash new.engine.nand) logs.went.log logs.went.leads ∙ call.was.device.engine.geometry

  as_before : array_of old.engine.geometry found ≡ array_of old.engine.geometry (view.flash old.engine.nand).image → bytes_found old found ≡ (contents_of view old).bytes
  as_before same = ap flat same ∙ sym (held view old call.held)

  as_after : new.engine.geometry ≡ old.engine.geometry → array_of old.engine.geometry found ≡ array_of old.engine.geometry (view.flash new.engine.nand).image
      → bytes_found old found ≡ (contents_of view new).bytes
  as_after sized same =
      ap flat (same ∙ ap (λ (g : Geometry). array_of g (view.flash new.engine.nand).image) (sym sized)) ∙ sym (held view new call.holds_on)

  -- a change
  pub killed_change : (command : Command) (answer : Result (Unit {0}) DeviceFault) (result : Result (Unit {0}) DiskFault) → result ≡ change_answer answer → Logs view command old answer new
      → MountsFor old found × ((bytes_found old found ≡ (contents_of view old).bytes) ⊎ ((result ≡ Ok tt) × (bytes_found old found ≡ (contents_of view new).bytes)))
  killed_change command answer result told logs =
      let s = survives command answer logs in
      let sized : new.engine.geometry ≡ old.engine.geometry = geometry_same command answer logs in (
        s.mountable,
        elim s.array [
          | inl was ↦ inl (as_before was)
          | inr done ↦ inr (told ∙ ap change_answer done.1, as_after sized done.2)
        ],
      )

  -- what changes no sector
  pub killed_quiet : (command : Command) (answer : Result (Unit {0}) DeviceFault) → changes_sector command ≢ true → Logs view command old answer new
      → MountsFor old found × (bytes_found old found ≡ (contents_of view old).bytes)
  killed_quiet command answer quiet logs =
      let s = survives command answer logs in (
        s.mountable,
        elim s.array [
          | inl was ↦ as_before was
          | inr done ↦ absurd (quiet done.0)
        ],
      )

pub killed_change_law : {N : Type 0} (view : View N) → KilledChangeLaw view
killed_change_law view old new n command result found call asks at =
    killed_change view old new found call at command asks.answer result asks.told
    (asks.changes.logs (its_die view old new found call at) (went_on view old new found call at asks.answer asks.changes.refuses))

pub killed_flush_law : {N : Type 0} (view : View N) → KilledFlushLaw view
killed_flush_law view old new result found call asks at =
    killed_quiet view old new found call at Flush asks.answer (λ e. cc)
    (asks.upkeeps.logs (its_die view old new found call at) (went_on view old new found call at asks.answer asks.upkeeps.refuses))

pub killed_turn_law : {N : Type 0} (view : View N) → KilledTurnLaw view
killed_turn_law view old new result found call asks at =
    killed_quiet view old new found call at Turn asks.answer (λ e. cc)
    (asks.upkeeps.logs (its_die view old new found call at) (went_on view old new found call at asks.answer asks.upkeeps.refuses))

pub found_as_it_was_law : {N : Type 0} (view : View N) → FoundAsItWasLaw view
found_as_it_was_law view old new log was h some records = record {
  told = some;
  log = log;
  records = records;
  left = record { whole = (was.well h).truth.whole; by = between old.engine.geometry.pages (view.flash old.engine.nand).image [] log };
}

pub store_tells : {S : Type 0} (held : S → Held) → StoreTellsLaw held (λ d. Some d.told)
store_tells held d = record { told = refl; pages = refl }

pub found_torn_law : {N : Type 0} (view : View N) → FoundTornLaw view
found_torn_law view old new before after op torn still gains whole tears = record {
  told = still;
  log = before ++ op ∷ after;
  records = gains;
  left = record {
    whole = whole;
    by = (torn_in_one_law old.engine.geometry.pages (view.flash old.engine.nand).image torn (before ++ op ∷ after)).1 (inr (record { before = before; op = op; after = after; cut = refl; tears = tears }));
  };
}
