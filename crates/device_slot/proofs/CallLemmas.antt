-- Calls on a device, one after another.
use Rattle.std.proofs.Common.{◌≡◌, ◌≢◌, inl, inr, ℕ, true, false, List, [], ◌∷◌, ◌++◌, Option, Some, None, Result, Ok, Err, refl, sym, ap, ◌∙◌, subst, append_assoc, append-nil}
use Rattle.std.proofs.lemmas.Bool.{cases_eq}
use Rattle.promises.specs.Step as step
use Rattle.ftl_device.specs.declared.device.Device.{Device}
use Rattle.ftl_device.specs.declared.fault.DeviceFault.{DeviceFault}
use Rattle.std.specs.Prelude.{IfErr}
use Rattle.std.specs.Option.{ForSome}
use Rattle.page_layout.specs.View.{View}
use Rattle.ftl_device.specs.declared.fault.DeviceFault.TheVariants.{OutOfRange, ReadOnly, SequenceSpent, OutOfMemory, Damaged, BusFault}
use Rattle.ftl_device.specs.Calls.{stop_of, IsWell}
use Rattle.ftl_device.specs.Device.{IsDevice}
use Rattle.command_queue.specs.Commands.{KeepsBytes, is_read}
use Rattle.command_queue.specs.Exchanges.{Exchange, StopsDevice}
use Rattle.command_queue.specs.Tells.{Tells}
use Rattle.command_queue.specs.Told.{WasTold, RunsTo}
use Rattle.command_queue.proofs.AcceptedLemmas.{started_well, ran_accepted}
use Rattle.command_queue.proofs.ToldLemmas.{bus_stops, told_none, told_more, until_so}
use Rattle.device_slot.specs.declared.slot.CallFault.{CallFault}
use Rattle.device_slot.specs.declared.slot.Shortage.{Shortage}
use Rattle.device_slot.specs.Begun.{IsDeviceKept}
use Rattle.device_slot.specs.Calls.{call_answer, ToldCommand, SlotCall, CalledEach, exchange_by, exchanges_of_calls}
use Rattle.device_slot.specs.Laws.{SizedCallLaw, CallsToldLaw, CallsRunLaw, RunsFromBegun}

nil_on : (xs : List Exchange) → [] ++ xs ≡ xs
nil_on [] = refl
nil_on (x ∷ xs) = refl

-- ---- a device between calls

-- a call after which the device goes on was not answered by a fault of the bus
not_bus : (command : step.Command) (stop : Option DeviceFault) (result : Result (Unit {0}) DeviceFault) → IfErr result (λ fault. StopsDevice command fault → stop ≡ Some fault)
    → stop ≡ None → result ≢ Err BusFault
not_bus command stop (Ok done) stops going = λ e. (let no : ⊥ = cc in no)
not_bus command stop (Err OutOfRange) stops going = λ e. (let no : ⊥ = cc in no)
not_bus command stop (Err (ReadOnly good wanted failed)) stops going = λ e. (let no : ⊥ = cc in no)
not_bus command stop (Err SequenceSpent) stops going = λ e. (let no : ⊥ = cc in no)
not_bus command stop (Err OutOfMemory) stops going = λ e. (let no : ⊥ = cc in no)
not_bus command stop (Err Damaged) stops going = λ e. (let no : ⊥ = cc in no)
not_bus command stop (Err BusFault) stops going = λ e. (let both : Some BusFault ≡ None = sym (stops (bus_stops command)) ∙ going in let no : ⊥ = cc in no)

-- and it went on before
going_was : {N : Type 0} (old new : Device N) (result : Result (Unit {0}) DeviceFault) (o : Option DeviceFault) → stop_of old.engine.fault ≡ o
    → ForSome (stop_of old.engine.fault) (λ fault. (result ≡ Err fault) × (new ≡ old)) → stop_of new.engine.fault ≡ None → stop_of old.engine.fault ≡ None
going_was old new result None is stopped going = is
going_was {N} old new result (Some fault) is stopped going = ap (λ (d : Device N). stop_of d.engine.fault) (sym (stopped fault is).1) ∙ going

pub kept_on : {N : Type 0} (view : View N) (old new : Device N) (command : step.Command) (result : Result (Unit {0}) DeviceFault) → IsDeviceKept view old → IsDevice view.flash new
    → view.honest new.engine.nand ≡ view.honest old.engine.nand → ForSome (stop_of old.engine.fault) (λ fault. (result ≡ Err fault) × (new ≡ old))
    → IfErr result (λ fault. StopsDevice command fault → stop_of new.engine.fault ≡ Some fault)
    → (view.honest old.engine.nand ≡ true → IsWell view.flash old → result ≢ Err BusFault → IsWell view.flash new) → IsDeviceKept view new
kept_on view old new command result kept device same stopped stops well = record {
  device = device;
  well = λ h going.
      let was = sym same ∙ h in
      well was (kept.well was (going_was old new result (stop_of old.engine.fault) refl stopped going)) (not_bus command (stop_of new.engine.fault) result stops going);
}

-- ---- one call

-- a command that gives no bytes gives none
none_of : (command : step.Command) (result : Result (Unit {0}) DeviceFault) (out : List ℕ) → is_read command ≡ false → KeepsBytes command result [] out → out ≡ []
none_of (step.Read sector) result out quiet kept = (let never : ⊥ = cc in absurd never)
none_of (step.Write sector body) result out quiet kept = kept
none_of (step.Trim sector) result out quiet kept = kept
none_of step.Flush result out quiet kept = kept
none_of step.Turn result out quiet kept = kept

module _ {N : Type 0} (view : View N) where
  pub told_none_out : (old new : Device N) (command : step.Command) (answer : Result (Unit {0}) CallFault) (out : List ℕ) (noted : Option Shortage) → is_read command ≡ false
      → ToldCommand view old command [] answer out new noted → ToldCommand view old command [] answer [] new noted
  told_none_out old new command answer out noted quiet told =
      subst (λ (o : List ℕ). ToldCommand view old command [] answer o new noted) (none_of command told.result out quiet told.kept) told

  pub sized_call : SizedCallLaw view
  sized_call old new noted noted' call size given sized = elim (cases_eq size old.engine.geometry.data_bytes) [
    | inl same ↦ inr (record { given = given; noted = noted'; told = sized.whole same })
    | inr other ↦ (let its = sized.other other in inl (its.answered, its.same))
  ]

  -- ---- many calls

  its_exchange : (command : step.Command) (result : Result (Unit {0}) DeviceFault) (out : List ℕ)
      → exchange_by command (call_answer result) out ≡ record { command = command; result = result; bytes = out } ∷ []
  its_exchange command (Ok done) out = refl
  its_exchange command (Err fault) out = refl

  told_on : (old mid new : Device N) (xs : List Exchange) (calls : List SlotCall) → IsDevice view.flash old → WasTold view old xs mid
      → CalledEach view mid calls new → WasTold view old (xs ++ exchanges_of_calls calls) new
  told_on old mid new xs [] safe told each =
      subst (λ (ys : List Exchange). WasTold view old ys new) (sym (append-nil xs))
      (subst (λ (d : Device N). WasTold view old xs d) (sym each) told)
  told_on old mid new xs (call ∷ calls) safe told each = elim each.1 [
    | inl untold ↦
        subst (λ (a : Result (Unit {0}) CallFault). WasTold view old (xs ++ (exchange_by call.command a call.out ++ exchanges_of_calls calls)) new) (sym untold.0)
        (subst (λ (ys : List Exchange). WasTold view old (xs ++ ys) new) (sym (nil_on (exchanges_of_calls calls)))
        (told_on old each.0 new xs calls safe (subst (λ (d : Device N). WasTold view old xs d) (sym untold.1) told) each.2))
    | inr its ↦
        let x : Exchange = record { command = call.command; result = its.told.result; bytes = call.out } in
        let one : exchange_by call.command call.answer call.out ≡ x ∷ [] =
        ap (λ (a : Result (Unit {0}) CallFault). exchange_by call.command a call.out) its.told.answered ∙ its_exchange call.command its.told.result call.out in
        let more = told_more view old mid each.0 xs x safe told its.told.tells in
        subst (λ (ys : List Exchange). WasTold view old (xs ++ (ys ++ exchanges_of_calls calls)) new) (sym one)
        (subst (λ (ys : List Exchange). WasTold view old ys new) (append_assoc xs (x ∷ []) (exchanges_of_calls calls))
        (told_on old each.0 new (xs ++ x ∷ []) calls safe more each.2))
  ]

  pub calls_told : CallsToldLaw view
  calls_told old new calls safe each =
      subst (λ (xs : List Exchange). WasTold view old xs new) (nil_on (exchanges_of_calls calls))
      (told_on old old new [] calls safe (told_none view old safe) each)

  pub calls_run : CallsRunLaw view
  calls_run first new calls begun each =
      let s = view.flash first.engine.nand in
      let told = calls_told first new calls begun.kept.device each in
      until_so (λ d. d) (RunsTo view first) (RunsFromBegun view first begun)
      (Tells view) (Tells view) (exchanges_of_calls calls) new
      (λ before mid runs h.
      let well = started_well view.flash first s.geometry 0 begun.accepted.claim begun.accepted.stale begun.begun (begun.truth h) in
      let both = runs.1 h well in
      (both.0, ran_accepted view s 0 begun.accepted first mid before refl begun.begun (begun.its h) (begun.free h) (begun.accounts h) both.1))
      (λ before mid x known runs bus fails. fails) told.until
