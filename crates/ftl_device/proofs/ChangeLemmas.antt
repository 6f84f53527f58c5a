-- A device's call that changes a sector, from the engine's.
use Rattle.std.proofs.Common.{◌≡◌, ◌≢◌, ◌⊎◌, inl, inr, ℕ, ◌-◌, ◌^◌, ◌<◌, ◌≤◌, ◌∙◌, Bool, true, false, None, Option, Some, List, Result, Ok, Err, MatchResult, refl, sym, ap, subst, arith}
use Rattle.std.specs.Prelude.{IfErr, IsSome, slice_set}
use Rattle.std.specs.Option.{ForSome}
use Rattle.std.specs.Map.{keys_of}
use Rattle.std.proofs.lemmas.Bool.{lt-ltb}
use Rattle.page_layout.specs.View.{View}
use Rattle.page_layout.specs.DieCalls.{AskedNothing}
use Rattle.page_layout.specs.declared.geometry.Geometry.{Geometry}
use Rattle.page_layout.specs.declared.record.Kind.{Kind}
use Rattle.page_layout.specs.Page.{Image}
use Rattle.page_layout.specs.Array.{array_of}
use Rattle.page_layout.specs.Version.{AddsNoOld}
use Rattle.page_layout.specs.Counter.{HasRisen}
use Rattle.bad_blocks.specs.Table.{good_count}
use Rattle.allocation.specs.State.{free_count}
use Rattle.promises.specs.Step.{ArrayState, Command, Reply, WriteStep, ArrayStep}
use Rattle.collection.specs.declared.engine.Engine.{Engine}
use Rattle.collection.specs.declared.fault.EngineFault.TheVariants as engine_fault
use Rattle.collection.specs.State.{Ram}
use Rattle.collection.specs.Safe.{ram, image_in, page_in_buffer}
use Rattle.collection.specs.Results.{array_after}
use Rattle.collection.specs.Stops.{room_of}
use Rattle.collection.proofs.Logs.{went_same}
use Rattle.ftl_device.specs.declared.device.Device.{Device}
use Rattle.ftl_device.specs.declared.fault.CallFault.{CallFault}
use Rattle.ftl_device.specs.declared.fault.CallFault.TheVariants as call
use Rattle.ftl_device.specs.declared.fault.DeviceFault.{DeviceFault}
use Rattle.ftl_device.specs.declared.fault.DeviceFault.TheVariants.{OutOfRange, ReadOnly, SequenceSpent, OutOfMemory, Damaged, BusFault}
use Rattle.ftl_device.specs.Begin.{is_scarce}
use Rattle.ftl_device.specs.Counts.{is_flush}
use Rattle.ftl_device.specs.Device.{IsDevice}
use Rattle.ftl_device.specs.Calls.{Knows, IsWell, state_in, reply_of, stop_of, Says, CallTells, CallRefused, ChangesOneSector, standing_after, answer_of, MayChange, MayNot, IsBeyond, IsShortOf, IsMostRecent, HasCost, HasPageOf, IsLastOf, order_after}
use Rattle.ftl_device.specs.Shortage.{HasFunds, CallShort}
use Rattle.ftl_device.specs.Stopped.{changes_sector}
use Rattle.ftl_device.specs.Changes.{PinsNone, MayPin, HasLookedUp, Stays, RefusesCall, RefusesSector, ProgramsSector, Logs, Means, IsCallCut, Changes, EndsChange}
use Rattle.ftl_device.proofs.CallLemmas.{well_ram, well_device, memory_only, mountable_after, went_after, done_too}
use Rattle.ftl_device.proofs.PinLemmas.{knows_well, unpinned_moved, none_moved}
use Rattle.ftl_device.proofs.CostLemmas.{closed_is, spent_is, never_memory}
use Rattle.ftl_device.proofs.MountableLemmas.{stale_law, restart_more}
use Rattle.ftl_device.proofs.ShownLemmas.{shown_refused, shown_after, left_after, left_refused}
use Rattle.ftl_device.proofs.SpentLemmas.{funded_begun, call_short}
use Rattle.ftl_device.proofs.StoppedLemmas.{cut_put, dead_call, stopped_call, stops_same}

abbrev refusal : DeviceFault → Result (Unit {0}) DeviceFault
refusal fault = Err fault

-- no block is pinned and one is
pub unpinned_some : {A : Type 0} (o : Option A) → o ≡ None → IsSome o → ⊥
unpinned_some None none some = (let no : ⊥ = cc in no)
unpinned_some (Some x) none some = (let no : ⊥ = cc in no)

-- ---- what the engine's answer says of the device's

pub says_of : (answer : Result (Unit {0}) CallFault) (old new : Ram) → new.fault ≡ standing_after answer → CallTells old new answer → IfErr (answer_of new (good_count old.blocks.table) answer) (Says old new)
says_of (Ok done) old new stands tells = tt
says_of (Err (call.Engine engine_fault.ReadOnly)) old new stands tells = record { scarce = tells.0; good_is = refl; wanted_is = refl; failed_is = omega (arith, tells.1) }
says_of (Err (call.Engine engine_fault.SequenceSpent)) old new stands tells = tells
says_of (Err (call.Engine engine_fault.Damaged)) old new stands tells = ap stop_of stands
says_of (Err (call.Engine engine_fault.Bus)) old new stands tells = ap stop_of stands
says_of (Err call.OutOfMemory) old new stands tells = tt

no_stop : (stop : Option DeviceFault) (fault : DeviceFault) (P : Type 0) → stop ≡ None → stop ≡ Some fault → P
no_stop stop fault P none some = (let no : ⊥ = cc in absurd no)

pub standing_of : (answer : Result (Unit {0}) CallFault) (new : Ram) (good : ℕ) → new.fault ≡ standing_after answer → ForSome (stop_of new.fault) (λ fault. answer_of new good answer ≡ Err fault)
standing_of (Ok done) new good stands fault is = no_stop (stop_of new.fault) fault (answer_of new good (Ok done) ≡ Err fault) (ap stop_of stands) is
standing_of (Err (call.Engine engine_fault.ReadOnly)) new good stands fault is = no_stop (stop_of new.fault) fault _ (ap stop_of stands) is
standing_of (Err (call.Engine engine_fault.SequenceSpent)) new good stands fault is = no_stop (stop_of new.fault) fault _ (ap stop_of stands) is
standing_of (Err (call.Engine engine_fault.Damaged)) new good stands fault is = ap Err (let same : Some Damaged ≡ Some fault = sym (ap stop_of stands) ∙ is in cc)
standing_of (Err (call.Engine engine_fault.Bus)) new good stands fault is = ap Err (let same : Some BusFault ≡ Some fault = sym (ap stop_of stands) ∙ is in cc)
standing_of (Err call.OutOfMemory) new good stands fault is = no_stop (stop_of new.fault) fault _ (ap stop_of stands) is

pub rose_of : (P : Type 0) (answer : Result (Unit {0}) CallFault) (new : Ram) (good : ℕ) → (answer ≡ Err (call.Engine engine_fault.Bus) → P) → answer_of new good answer ≡ Err BusFault → P
rose_of P (Ok done) new good rose e = (let no : ⊥ = cc in absurd no)
rose_of P (Err (call.Engine engine_fault.ReadOnly)) new good rose e = (let no : ⊥ = cc in absurd no)
rose_of P (Err (call.Engine engine_fault.SequenceSpent)) new good rose e = (let no : ⊥ = cc in absurd no)
rose_of P (Err (call.Engine engine_fault.Damaged)) new good rose e = (let no : ⊥ = cc in absurd no)
rose_of P (Err (call.Engine engine_fault.Bus)) new good rose e = rose refl
rose_of P (Err call.OutOfMemory) new good rose e = (let no : ⊥ = cc in absurd no)

pub not_past : (answer : Result (Unit {0}) CallFault) (new : Ram) (good : ℕ) → answer_of new good answer ≡ Err OutOfRange → ⊥
not_past (Ok done) new good e = (let no : ⊥ = cc in no)
not_past (Err (call.Engine engine_fault.ReadOnly)) new good e = (let no : ⊥ = cc in no)
not_past (Err (call.Engine engine_fault.SequenceSpent)) new good e = (let no : ⊥ = cc in no)
not_past (Err (call.Engine engine_fault.Damaged)) new good e = (let no : ⊥ = cc in no)
not_past (Err (call.Engine engine_fault.Bus)) new good e = (let no : ⊥ = cc in no)
not_past (Err call.OutOfMemory) new good e = (let no : ⊥ = cc in no)

-- a step of the array
module _ (g h : Geometry) (n : ℕ) (bytes : List ℕ) (before after : Image) (old new : Ram) (ro on : Bool) (good : ℕ) (within : n < g.sectors) (writable : ro ≡ false) (flag : on ≡ is_scarce (free_count new.blocks)) (same : h ≡ g) where
  abbrev state_now : ArrayState
  state_now = record { array = array_of h after; ro = on }

  abbrev state_was : ArrayState
  state_was = record { array = array_of g before; ro = ro }

  array_now : (xs : List (List ℕ)) → array_of g after ≡ xs → array_of h after ≡ xs
  array_now xs is = ap (λ x. array_of x after) same ∙ is

  pub step_of : (answer : Result (Unit {0}) CallFault) → CallTells old new answer
      → MatchResult answer (λ _. ChangesOneSector g n bytes before new after) (CallRefused g before new after)
      → answer_of new good answer ≢ Err BusFault → WriteStep g state_was n bytes (reply_of (answer_of new good answer)) state_now
  step_of (Ok done) tells is ne = record { within = within; writable = writable; array_is = array_now _ is.array }
  step_of (Err (call.Engine engine_fault.ReadOnly)) tells is ne = record { within = within; becomes = record { array_is = array_now _ is.array; read_only = flag ∙ lt-ltb (free_count new.blocks) 5 tells.0 } }
  step_of (Err (call.Engine engine_fault.SequenceSpent)) tells is ne = record { within = within; keeps = record { writable = writable; array_is = array_now _ is.array } }
  step_of (Err (call.Engine engine_fault.Damaged)) tells is ne = absurd is
  step_of (Err (call.Engine engine_fault.Bus)) tells is ne = absurd (ne refl)
  step_of (Err call.OutOfMemory) tells is ne = record { within = within; keeps = record { writable = writable; array_is = array_now _ is.array } }

-- a call that was made was neither stopped nor read-only as it began
module _ {N : Type 0} (failed : N → ℕ) (old new : Device N) (going : old.engine.fault ≡ None) (writable : old.read_only ≡ false) where
  pub refuses_made : (answer : Result (Unit {0}) CallFault) → new.engine.fault ≡ standing_after answer → CallTells (ram old.engine) (ram new.engine) answer → (answer ≡ Err (call.Engine engine_fault.Bus) → HasRisen (failed old.engine.nand) (failed new.engine.nand))
      → RefusesCall failed old (answer_of (ram new.engine) (good_count (ram old.engine).blocks.table) answer) new
  refuses_made answer stands tells rose = record {
    stopped = λ fault is. no_stop (stop_of old.engine.fault) fault _ (ap stop_of going) is;
    closed = λ on. (let off : old.read_only ≡ false = writable in let no : ⊥ = cc in absurd no);
    says = says_of answer (ram old.engine) (ram new.engine) stands tells;
    rose = λ begun e. rose_of _ answer (ram new.engine) (good_count (ram old.engine).blocks.table) rose e;
    standing = standing_of answer (ram new.engine) (good_count (ram old.engine).blocks.table) stands;
  }

-- a call that was done, or refused for memory, pins no block
pub pins_of : {N : Type 0} (answer : Result (Unit {0}) CallFault) (old new : Engine N) (q : Ram) (good : ℕ) → PinsNone answer old new → old.pinned ≡ None → IsSome new.pinned → MayPin (answer_of q good answer)
pins_of (Ok done) old new q good pins none some = unpinned_some new.pinned (pins none) some
pins_of (Err (call.Engine engine_fault.ReadOnly)) old new q good pins none some = tt
pins_of (Err (call.Engine engine_fault.SequenceSpent)) old new q good pins none some = tt
pins_of (Err (call.Engine engine_fault.Damaged)) old new q good pins none some = tt
pins_of (Err (call.Engine engine_fault.Bus)) old new q good pins none some = tt
pins_of (Err call.OutOfMemory) old new q good pins none some = unpinned_some new.pinned (pins none) some

-- a command that changes a sector changes the array where it is done, and keeps it where it is refused
changed_or : (g : Geometry) (n : ℕ) (bytes : List ℕ) (command : Command) → changes_sector command ≡ true
    → (before after : Image) (new q : Ram) (good : ℕ) (answer : Result (Unit {0}) CallFault)
    → MatchResult answer (λ _. ChangesOneSector g n bytes before new after) (CallRefused g before new after)
    → answer_of q good answer ≢ Err BusFault → (array_of g after ≡ array_of g before) ⊎ ((changes_sector command ≡ true) × (answer_of q good answer ≡ Ok tt))
changed_or g n bytes command its before after new q good (Ok done) h ne = inr (its, refl)
changed_or g n bytes command its before after new q good (Err (call.Engine engine_fault.ReadOnly)) h ne = inl h.array
changed_or g n bytes command its before after new q good (Err (call.Engine engine_fault.SequenceSpent)) h ne = inl h.array
changed_or g n bytes command its before after new q good (Err (call.Engine engine_fault.Damaged)) h ne = absurd h
changed_or g n bytes command its before after new q good (Err (call.Engine engine_fault.Bus)) h ne = absurd (ne refl)
changed_or g n bytes command its before after new q good (Err call.OutOfMemory) h ne = inl h.array

-- whatever it is answered, no newest page of version 1 is added
changed_versions : (g : Geometry) (n : ℕ) (bytes : List ℕ) (before after : Image) (new q : Ram) (good : ℕ) (answer : Result (Unit {0}) CallFault) → MatchResult answer (λ _. ChangesOneSector g n bytes before new after) (CallRefused g before new after)
    → answer_of q good answer ≢ Err BusFault → AddsNoOld g before after
changed_versions g n bytes before after new q good (Ok done) h ne = h.versions
changed_versions g n bytes before after new q good (Err (call.Engine engine_fault.ReadOnly)) h ne = h.versions
changed_versions g n bytes before after new q good (Err (call.Engine engine_fault.SequenceSpent)) h ne = h.versions
changed_versions g n bytes before after new q good (Err (call.Engine engine_fault.Damaged)) h ne = absurd h
changed_versions g n bytes before after new q good (Err (call.Engine engine_fault.Bus)) h ne = absurd (ne refl)
changed_versions g n bytes before after new q good (Err call.OutOfMemory) h ne = h.versions

no_flush_is : (command : Command) → is_flush command ≡ false → (P : Type 0) → is_flush command ≡ true → P
no_flush_is command off P its = (let no : ⊥ = cc in absurd no)

-- ---- the call was made

module _ {N : Type 0} (view : View N) (n : ℕ) (bytes : List ℕ)
    (command : Command) (old new : Device N) (device : IsDevice view.flash old) (device' : IsDevice view.flash new)
    (may : MayChange (ram old.engine) old.read_only n)
    (takes : (reply : Reply) (s : ArrayState) → WriteStep old.engine.geometry (state_in view.flash old) n bytes reply s → ArrayStep old.engine.geometry (state_in view.flash old) command reply s) (no_flush : is_flush command ≡ false) (changes : changes_sector command ≡ true)
    (kind : Kind) (gives : (xs : List (List ℕ)) → array_after old.engine.geometry kind n bytes xs ≡ slice_set xs n bytes) where
  abbrev good_then : ℕ
  good_then = good_count (ram old.engine).blocks.table

  module _ (answer : Result (Unit {0}) CallFault) (k : EndsChange view kind n bytes command old.engine answer new.engine) where
    abbrev replied : Result (Unit {0}) DeviceFault
    replied = answer_of (ram new.engine) good_then answer

    refuses_sector_done : RefusesSector n old replied new
    refuses_sector_done = record {
      past = λ going. ((λ e. absurd (not_past answer (ram new.engine) good_then e)), (λ past. absurd (omega (arith, may.within, past))));
      untouched = λ e. absurd (not_past answer (ram new.engine) good_then e);
      read_only = λ going within on. (let off : old.read_only ≡ false = may.writable in let no : ⊥ = cc in absurd no);
      spent = λ going within off last. absurd (omega (arith, may.sequence, last));
      cached = λ some e. k.readies.cached some (memory_only answer replied good_then (ram new.engine) refl e);
    }

    here : IsWell view.flash old → Knows (ram old.engine) (image_in view.flash old.engine)
    here well = knows_well view.flash old device well may.going

    programs_done : ProgramsSector view n command old replied new
    programs_done = record {
      recent = done_too (IsMostRecent n new.engine.mapping) answer good_then (ram new.engine) k.readies.recent;
      keys = done_too (keys_of new.engine.mapping.cached ≡ order_after old.engine.mapping n) answer good_then (ram new.engine) k.readies.keys;
      cost = done_too (HasCost n (ram old.engine) (ram new.engine)) answer good_then (ram new.engine) k.cost;
      checked = done_too (HasLookedUp n (ram old.engine) (ram new.engine) (page_in_buffer new.engine.scratch)) answer good_then (ram new.engine) k.checked;
      page = done_too (IsLastOf old.engine.geometry command (ram new.engine) (page_in_buffer new.engine.page)) answer good_then (ram new.engine) k.page;
      newest = λ is_honest well. done_too (HasPageOf old.engine.geometry command (ram new.engine) (image_in view.flash new.engine)) answer good_then (ram new.engine) (k.newest is_honest (here well));
      unwritten = λ e. k.readies.unwritten (memory_only answer replied good_then (ram new.engine) refl e);
      same_keys = λ e. k.readies.same_keys (memory_only answer replied good_then (ram new.engine) refl e);
    }

    short : view.honest old.engine.nand ≡ true → Knows (ram old.engine) (image_in view.flash old.engine) → CallShort (ram old.engine) (ram new.engine) answer
    short is_honest well = call_short (HasFunds (view.honest old.engine.nand) (ram old.engine) (image_in view.flash old.engine)) answer (ram old.engine)
        (ram new.engine) device.engine.memory k.readies.costs
        (is_honest, well, funded_begun (ram old.engine) old.read_only device.read_only may.writable)

    logs_done : view.honest old.engine.nand ≡ true → replied ≢ Err BusFault → Logs view command old replied new
    logs_done is_honest ne =
        let w = went_after view old.engine new.engine new.engine answer replied good_then refl refl (k.ends.went is_honest) ne in
        record {
          went = w;
          shown = λ well. shown_after view old.engine new.engine new.engine w n bytes old.read_only answer replied good_then refl device.engine.memory k.ends.limits.share k.ends.safe.memory k.ends.geometry refl refl k.ends.tells (short is_honest (here well)) (k.truth is_honest (here well)) ne;
          left = λ well on. left_after view command old.engine new.engine new.engine w old.read_only new.read_only answer replied good_then refl refl device.engine.memory device'.engine.memory k.ends.geometry device'.read_only on (short is_honest (here well));
          flushed = λ well its done. no_flush_is command no_flush _ its;
          stopped = λ well. stopped_call view old.engine new.engine command replied w.log device.engine w.records (k.ends.stops is_honest (here well) (λ bus. ne (ap (answer_of (ram new.engine) good_then) bus)))
              (changed_or old.engine.geometry n bytes command changes (image_in view.flash old.engine) (image_in view.flash new.engine) (ram new.engine) (ram new.engine) good_then answer (k.truth is_honest (here well)) ne);
          dead = λ well. dead_call view old.engine new.engine w.log device.engine w.records (k.ends.stops is_honest (here well) (λ bus. ne (ap (answer_of (ram new.engine) good_then) bus)));
        }

    cut_done : view.honest old.engine.nand ≡ true → Knows (ram old.engine) (image_in view.flash old.engine) → replied ≡ Err BusFault → IsCallCut view command old new
    cut_done is_honest known bus = cut_put view old.engine new.engine command device.engine kind n bytes bytes changes may.within gives
        (λ s w. subst (λ ro. ArrayStep old.engine.geometry (record { array = array_of old.engine.geometry (image_in view.flash old.engine); ro = ro }) command (reply_of (Ok tt)) s) may.writable
        (takes (reply_of (Ok tt)) s (subst (λ ro. WriteStep old.engine.geometry (record { array = array_of old.engine.geometry (image_in view.flash old.engine); ro = ro }) n bytes (reply_of (Ok tt)) s) (sym may.writable) w)))
        (k.cut is_honest known (rose_of (answer ≡ Err (call.Engine engine_fault.Bus)) answer (ram new.engine) good_then (λ e. e) bus))

    means_done : view.honest old.engine.nand ≡ true → Knows (ram old.engine) (image_in view.flash old.engine) → replied ≢ Err BusFault → Means view.flash command old replied new
    means_done is_honest known ne =
        let after = well_device view.flash new new.engine refl (well_ram answer replied good_then n bytes _ _ _ (ram new.engine) (ram new.engine) k.ends.fault refl ne (k.truth is_honest known)) in
        record {
          step = takes _ _
              (step_of old.engine.geometry new.engine.geometry n bytes (image_in view.flash old.engine) (image_in view.flash new.engine) (ram old.engine)
              (ram new.engine) old.read_only new.read_only good_then may.within may.writable device'.read_only k.ends.geometry answer k.ends.tells
              (k.truth is_honest known) ne);
          well = after;
          versions = changed_versions old.engine.geometry n bytes (image_in view.flash old.engine) (image_in view.flash new.engine) (ram new.engine) (ram new.engine) good_then answer (k.truth is_honest known) ne;
          mountable = λ most. mountable_after view.flash old.engine new new.engine refl k.ends.geometry k.ends.limits device'.engine.memory after most;
        }

    change_done : Changes view n command old replied new
    change_done = record {
      stays = record { limits = k.ends.limits; honest_is = k.ends.die.honest_is; calm_is = k.ends.die.calm_is; asked = k.ends.die.asked; failed_is = k.ends.die.failed_is };
      refuses = refuses_made view.failed old new may.going may.writable answer k.ends.fault k.ends.tells k.ends.rose;
      refuses_sector = refuses_sector_done;
      programs = programs_done;
      pins = λ none some. pins_of answer old.engine new.engine (ram new.engine) good_then k.readies.pins none some;
      logs = logs_done;
      cut = λ is_honest well going bus. cut_done is_honest (here well) bus;
      means = λ is_honest well ne. means_done is_honest (here well) ne;
      stale = λ is_honest well none unpinned is e. k.readies.cached (stale_law (ram old.engine) _ n well.truth (none_moved (ram old.engine) none (unpinned_moved (ram old.engine) (device.calm may.going) unpinned)) may.within is) (memory_only answer replied good_then (ram new.engine) refl e);
    }

  -- the device noted nothing else
  pub changed_by : (mid : Engine N) (good : ℕ) (answer : Result (Unit {0}) CallFault) (result : Result (Unit {0}) DeviceFault) → new.engine ≡ mid
      → good ≡ good_then → result ≡ answer_of (ram new.engine) good answer → EndsChange view kind n bytes command old.engine answer mid → Changes view n command old result new
  changed_by mid good answer result same many is kept =
      let done = change_done answer (subst (EndsChange view kind n bytes command old.engine answer) (sym same) kept) in
      subst (λ r. Changes view n command old r new) (sym (is ∙ ap (λ k. answer_of (ram new.engine) k answer) many)) done

-- ---- it was refused at once

-- what a refusal at once knows, whatever was asked
abbrev pub Why : Ram → DeviceFault → Type 0
Why r OutOfRange = stop_of r.fault ≡ None
Why r (ReadOnly good wanted lost) = (stop_of r.fault ≡ None) × IsShortOf r r good wanted lost
Why r SequenceSpent = (stop_of r.fault ≡ None) × (r.next ≡ 2 ^ 64 - 1)
Why r OutOfMemory = ⊥
Why r Damaged = stop_of r.fault ≡ Some Damaged
Why r BusFault = stop_of r.fault ≡ Some BusFault

module _ (r : Ram) where
  stopped_refusal : (fault other : DeviceFault) → Why r fault → stop_of r.fault ≡ Some other → fault ≡ other
  stopped_refusal OutOfRange other not is = no_stop (stop_of r.fault) other _ not is
  stopped_refusal (ReadOnly good wanted lost) other not is = no_stop (stop_of r.fault) other _ not.0 is
  stopped_refusal SequenceSpent other not is = no_stop (stop_of r.fault) other _ not.0 is
  stopped_refusal OutOfMemory other not is = absurd not
  stopped_refusal Damaged other not is = (let same : Some Damaged ≡ Some other = sym not ∙ is in cc)
  stopped_refusal BusFault other not is = (let same : Some BusFault ≡ Some other = sym not ∙ is in cc)

  says_refusal : (fault : DeviceFault) → Why r fault → Says r r fault
  says_refusal OutOfRange not = refl
  says_refusal (ReadOnly good wanted lost) not = not.1
  says_refusal SequenceSpent not = not.1
  says_refusal OutOfMemory not = tt
  says_refusal Damaged not = not
  says_refusal BusFault not = not

  pub rose_refusal : (P : Type 0) (fault : DeviceFault) → Why r fault → stop_of r.fault ≡ None → refusal fault ≡ refusal BusFault → P
  rose_refusal P fault not going e =
      let same : fault ≡ BusFault = cc in
      let stop : stop_of r.fault ≡ Some BusFault = subst (Why r) same not in
      no_stop (stop_of r.fault) BusFault P going stop

pub refuses_at_once : {N : Type 0} (failed : N → ℕ) (old : Device N) (fault : DeviceFault) → Why (ram old.engine) fault → RefusesCall failed old (Err fault) old
refuses_at_once failed old fault why = record {
  stopped = λ other is. (ap Err (stopped_refusal (ram old.engine) fault other why is), refl);
  closed = λ on. refl;
  says = says_refusal (ram old.engine) fault why;
  rose = λ going e. rose_refusal (ram old.engine) _ fault why going e;
  standing = λ other is. ap Err (stopped_refusal (ram old.engine) fault other why is);
}

pub stays_same : {N : Type 0} (view : View N) (d : Device N) → Stays view d d
stays_same view d = record { limits = record { geometry = refl; capacity = refl; share = refl }; honest_is = refl; calm_is = refl; asked = AskedNothing; failed_is = omega arith }

module _ (r : Ram) (ro : Bool) (n : ℕ) where
  why_not : (fault : DeviceFault) → MayNot r ro n fault → Why r fault
  why_not OutOfRange not = not.going
  why_not (ReadOnly good wanted lost) not = (not.going, not.short)
  why_not SequenceSpent not = (not.going, not.last)
  why_not OutOfMemory not = not
  why_not Damaged not = not
  why_not BusFault not = not

  past_refusal : (fault : DeviceFault) → MayNot r ro n fault → refusal fault ≡ refusal OutOfRange → r.geometry.sectors ≤ n
  past_refusal fault not e =
      let same : fault ≡ OutOfRange = cc in
      let beyond : IsBeyond r n = subst (MayNot r ro n) same not in
      beyond.past

  refusal_past : (fault : DeviceFault) → MayNot r ro n fault → stop_of r.fault ≡ None → r.geometry.sectors ≤ n → fault ≡ OutOfRange
  refusal_past OutOfRange not going past = refl
  refusal_past (ReadOnly good wanted lost) not going past = absurd (omega (arith, not.within, past))
  refusal_past SequenceSpent not going past = absurd (omega (arith, not.within, past))
  refusal_past OutOfMemory not going past = absurd not
  refusal_past Damaged not going past = no_stop (stop_of r.fault) Damaged _ going not
  refusal_past BusFault not going past = no_stop (stop_of r.fault) BusFault _ going not

  step_refusal : (g : Geometry) (xs : List (List ℕ)) (bytes : List ℕ) (fault : DeviceFault) → r.geometry ≡ g → MayNot r ro n fault → stop_of r.fault ≡ None → WriteStep g (record { array = xs; ro = ro }) n bytes (reply_of (Err fault)) (record { array = xs; ro = ro })
  step_refusal g xs bytes OutOfRange same not going = record { past = subst (λ (h : Geometry). h.sectors ≤ n) same not.past; same = refl }
  step_refusal g xs bytes (ReadOnly good wanted lost) same not going = record { within = subst (λ (h : Geometry). n < h.sectors) same not.within; becomes = record { array_is = refl; read_only = not.closed } }
  step_refusal g xs bytes SequenceSpent same not going = record { within = subst (λ (h : Geometry). n < h.sectors) same not.within; keeps = record { writable = not.writable; array_is = refl } }
  step_refusal g xs bytes OutOfMemory same not going = absurd not
  step_refusal g xs bytes Damaged same not going = no_stop (stop_of r.fault) Damaged _ going not
  step_refusal g xs bytes BusFault same not going = no_stop (stop_of r.fault) BusFault _ going not

module _ {N : Type 0} (view : View N) (n : ℕ) (bytes : List ℕ) (command : Command) (old : Device N) (device : IsDevice view.flash old)
    (takes : (reply : Reply) (s : ArrayState) → WriteStep old.engine.geometry (state_in view.flash old) n bytes reply s → ArrayStep old.engine.geometry (state_in view.flash old) command reply s) (no_flush : is_flush command ≡ false) where
  pub not_changed : (fault : DeviceFault) → MayNot (ram old.engine) old.read_only n fault → Changes view n command old (Err fault) old
  not_changed fault not = record {
    stays = stays_same view old;
    refuses = refuses_at_once view.failed old fault (why_not (ram old.engine) old.read_only n fault not);
    refuses_sector = record {
      past = λ going. ((λ e. past_refusal (ram old.engine) old.read_only n fault not e), (λ past. ap Err (refusal_past (ram old.engine) old.read_only n fault not going past)));
      untouched = λ e. refl;
      read_only = λ going within on. ap Err (closed_is (ram old.engine) old.read_only n fault not going within on);
      spent = λ going within off last. (ap Err (spent_is (ram old.engine) old.read_only n fault not going within off), refl);
      cached = λ some e. absurd (never_memory (ram old.engine) old.read_only n fault not e);
    };
    programs = record {
      recent = tt;
      keys = tt;
      cost = tt;
      checked = tt;
      page = tt;
      newest = λ is_honest well. tt;
      unwritten = λ e. absurd (never_memory (ram old.engine) old.read_only n fault not e);
      same_keys = λ e. absurd (never_memory (ram old.engine) old.read_only n fault not e);
    };
    pins = λ none some. absurd (unpinned_some old.engine.pinned none some);
    logs = λ is_honest ne.
        let w = went_same (ram old.engine) (view.flash old.engine.nand) (view.recorded old.engine.nand) in
        record {
          went = w;
          shown = λ well. shown_refused (ram old.engine) (view.flash old.engine.nand) w old.read_only n fault device.engine.memory well.truth well.going not;
          left = λ well on. left_refused command (ram old.engine) w.log old.read_only n fault not;
          flushed = λ well its done. no_flush_is command no_flush _ its;
          stopped = λ well. stopped_call view old.engine old.engine command (Err fault) w.log device.engine w.records (stops_same view old.engine device.engine well.truth) (inl refl);
          dead = λ well. dead_call view old.engine old.engine w.log device.engine w.records (stops_same view old.engine device.engine well.truth);
        };
    cut = λ is_honest well going bus. rose_refusal (ram old.engine) _ fault (why_not (ram old.engine) old.read_only n fault not) going bus;
    means = λ is_honest well ne. record {
      step = takes _ _ (step_refusal (ram old.engine) old.read_only n old.engine.geometry (array_of old.engine.geometry (image_in view.flash old.engine)) bytes fault refl not well.going);
      well = well;
      versions = λ two key row at. at;
      mountable = λ most. restart_more (ram old.engine) _ (room_of (ram old.engine)) device.engine.memory well.truth (omega arith) most;
    };
    stale = λ is_honest well none unpinned is e. absurd (never_memory (ram old.engine) old.read_only n fault not e);
  }
