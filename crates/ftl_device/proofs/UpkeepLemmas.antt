-- A device's call that changes no sector, a flush or a turn, from the engine's.
use Rattle.std.proofs.Common.{◌≡◌, ◌≢◌, inl, ℕ, ◌∙◌, Bool, true, false, None, [], Result, Ok, Err, OnOk, MatchResult, refl, sym, ap, subst, arith}
use Rattle.std.specs.Prelude.{IsSome}
use Rattle.std.proofs.lemmas.Bool.{lt-ltb}
use Rattle.page_layout.specs.View.{View}
use Rattle.page_layout.specs.declared.geometry.Geometry.{Geometry}
use Rattle.page_layout.specs.Geometry.{need_at}
use Rattle.page_layout.specs.Page.{Image}
use Rattle.page_layout.specs.Array.{array_of}
use Rattle.page_layout.specs.Version.{AddsNoOld}
use Rattle.bad_blocks.specs.Table.{good_count}
use Rattle.allocation.specs.State.{free_count}
use Rattle.promises.specs.Step.{ArrayState, Command, Reply, QuietStep, ArrayStep}
use Rattle.collection.specs.declared.engine.Engine.{Engine}
use Rattle.collection.specs.declared.fault.EngineFault.TheVariants as engine_fault
use Rattle.collection.specs.State.{Ram}
use Rattle.collection.specs.Safe.{ram, image_in}
use Rattle.collection.specs.Log.{Went}
use Rattle.collection.proofs.Logs.{went_same}
use Rattle.ftl_device.specs.declared.device.Device.{Device}
use Rattle.ftl_device.specs.declared.fault.CallFault.{CallFault}
use Rattle.ftl_device.specs.declared.fault.CallFault.TheVariants as call
use Rattle.ftl_device.specs.declared.fault.DeviceFault.{DeviceFault}
use Rattle.ftl_device.specs.declared.fault.DeviceFault.TheVariants.{OutOfRange, ReadOnly, SequenceSpent, OutOfMemory, Damaged, BusFault}
use Rattle.ftl_device.specs.Begin.{is_scarce}
use Rattle.ftl_device.specs.Device.{IsDevice}
use Rattle.ftl_device.specs.Calls.{Knows, IsWell, state_in, reply_of, stop_of, CallTells, CallRefused, KeepsArray, answer_of}
use Rattle.ftl_device.specs.Counts.{is_bad_by, is_flush, IsLeftReadOnly}
use Rattle.ftl_device.specs.Flush.{MayFlush, MayNotFlush, first_of, IsFlushedOut}
use Rattle.ftl_device.specs.Shortage.{CallShort}
use Rattle.ftl_device.specs.Changes.{EndsKept, PinsNone, MayPin, Logs, Means, Upkeeps}
use Rattle.ftl_device.proofs.CallLemmas.{well_device, memory_only, mountable_after, went_after}
use Rattle.ftl_device.proofs.ChangeLemmas.{pins_of, Why, refuses_made, refuses_at_once, rose_of, rose_refusal, stays_same, not_past}
use Rattle.ftl_device.proofs.PinLemmas.{knows_well}
use Rattle.ftl_device.proofs.FlushCalls.{flush_well, flush_shown, flush_refused, flush_left_refused}
use Rattle.ftl_device.proofs.MountableLemmas.{restart_law}
use Rattle.ftl_device.proofs.StoppedLemmas.{cut_kept, dead_call, stopped_call, stops_same}

-- ---- a step of the array that changes no sector

module _ (g h : Geometry) (before after : Image) (old new : Ram) (ro on : Bool) (good : ℕ) (writable : ro ≡ false) (flag : on ≡ is_scarce (free_count new.blocks)) (same : h ≡ g) where
  abbrev state_now : ArrayState
  state_now = record { array = array_of h after; ro = on }

  abbrev state_was : ArrayState
  state_was = record { array = array_of g before; ro = ro }

  kept_now : array_of g after ≡ array_of g before → array_of h after ≡ array_of g before
  kept_now is = ap (λ x. array_of x after) same ∙ is

  pub quiet_step : (answer : Result (Unit {0}) CallFault) → CallTells old new answer
      → MatchResult answer (λ _. KeepsArray g before new after) (CallRefused g before new after) → answer ≢ Err call.OutOfMemory
      → answer_of new good answer ≢ Err BusFault → QuietStep state_was (reply_of (answer_of new good answer)) state_now
  quiet_step (Ok done) tells is some ne = record { writable = writable; array_is = kept_now is.array }
  quiet_step (Err (call.Engine engine_fault.ReadOnly)) tells is some ne = record { array_is = kept_now is.array; read_only = flag ∙ lt-ltb (free_count new.blocks) 5 tells.0 }
  quiet_step (Err (call.Engine engine_fault.SequenceSpent)) tells is some ne = record { writable = writable; array_is = kept_now is.array }
  quiet_step (Err (call.Engine engine_fault.Damaged)) tells is some ne = absurd is
  quiet_step (Err (call.Engine engine_fault.Bus)) tells is some ne = absurd (ne refl)
  quiet_step (Err call.OutOfMemory) tells is some ne = absurd (some refl)

-- a command that changes no sector keeps the array, whatever it is answered
kept_array : (g : Geometry) (before after : Image) (new q : Ram) (good : ℕ) (answer : Result (Unit {0}) CallFault)
    → MatchResult answer (λ _. KeepsArray g before new after) (CallRefused g before new after) → answer_of q good answer ≢ Err BusFault
    → array_of g after ≡ array_of g before
kept_array g before after new q good (Ok done) h ne = h.array
kept_array g before after new q good (Err (call.Engine engine_fault.ReadOnly)) h ne = h.array
kept_array g before after new q good (Err (call.Engine engine_fault.SequenceSpent)) h ne = h.array
kept_array g before after new q good (Err (call.Engine engine_fault.Damaged)) h ne = absurd h
kept_array g before after new q good (Err (call.Engine engine_fault.Bus)) h ne = absurd (ne refl)
kept_array g before after new q good (Err call.OutOfMemory) h ne = h.array

-- and adds no newest page of version 1
kept_versions : (g : Geometry) (before after : Image) (new q : Ram) (good : ℕ) (answer : Result (Unit {0}) CallFault) → MatchResult answer (λ _. KeepsArray g before new after) (CallRefused g before new after) → answer_of q good answer ≢ Err BusFault → AddsNoOld g before after
kept_versions g before after new q good (Ok done) h ne = h.versions
kept_versions g before after new q good (Err (call.Engine engine_fault.ReadOnly)) h ne = h.versions
kept_versions g before after new q good (Err (call.Engine engine_fault.SequenceSpent)) h ne = h.versions
kept_versions g before after new q good (Err (call.Engine engine_fault.Damaged)) h ne = absurd h
kept_versions g before after new q good (Err (call.Engine engine_fault.Bus)) h ne = absurd (ne refl)
kept_versions g before after new q good (Err call.OutOfMemory) h ne = h.versions

-- an answer that is `Ok` was one of the engine's
done_only : (P : Type 0) (answer : Result (Unit {0}) CallFault) (good : ℕ) (r : Ram) → OnOk answer P → answer_of r good answer ≡ Ok tt → P
done_only P (Ok done) good r h e = h
done_only P (Err (call.Engine engine_fault.ReadOnly)) good r h e = (let no : ⊥ = cc in absurd no)
done_only P (Err (call.Engine engine_fault.SequenceSpent)) good r h e = (let no : ⊥ = cc in absurd no)
done_only P (Err (call.Engine engine_fault.Damaged)) good r h e = (let no : ⊥ = cc in absurd no)
done_only P (Err (call.Engine engine_fault.Bus)) good r h e = (let no : ⊥ = cc in absurd no)
done_only P (Err call.OutOfMemory) good r h e = (let no : ⊥ = cc in absurd no)

-- ---- the call was made

module _ {N : Type 0} (view : View N) (command : Command) (old : Device N) where
  abbrev good_then : ℕ
  good_then = good_count (ram old.engine).blocks.table

  -- what is known of the engine as the part ends that asks the die: what a refusal lacks, what leaves the device read-only, and, of a flush,
  -- what the image is worth
  pub record IsUpkept (answer : Result (Unit {0}) CallFault) (e : Engine N) : Type 0 where
    pub kept : EndsKept view old.engine answer e
    pub no_memory : answer ≢ Err call.OutOfMemory
    pub lacks : view.honest old.engine.nand ≡ true → Knows (ram old.engine) (image_in view.flash old.engine) → (fault : CallFault) → answer ≡ Err fault → CallShort (ram old.engine) (ram e) answer
    pub left : view.honest old.engine.nand ≡ true → Knows (ram old.engine) (image_in view.flash old.engine)
        → (w : Went (ram old.engine) (view.flash old.engine.nand) (view.recorded old.engine.nand) (ram e) (view.flash e.nand) (view.recorded e.nand))
        → (ro : Bool) → ro ≡ is_scarce (free_count (ram e).blocks) → ro ≡ true
        → IsLeftReadOnly command old.engine.geometry old.engine.mapping.share (is_bad_by (ram old.engine)) [] w.log old.read_only (answer_of (ram e) good_then answer)
    pub worth : view.honest old.engine.nand ≡ true → Knows (ram old.engine) (image_in view.flash old.engine)
        → (w : Went (ram old.engine) (view.flash old.engine.nand) (view.recorded old.engine.nand) (ram e) (view.flash e.nand) (view.recorded e.nand))
        → is_flush command ≡ true → OnOk answer (IsFlushedOut (first_of (ram old.engine)) w.log (image_in view.flash e))

  module _ (new : Device N) (device : IsDevice view.flash old) (device' : IsDevice view.flash new) (may : MayFlush (ram old.engine) old.read_only)
      (takes : (reply : Reply) (s : ArrayState) → QuietStep (state_in view.flash old) reply s → ArrayStep old.engine.geometry (state_in view.flash old) command reply s) where
    module _ (answer : Result (Unit {0}) CallFault) (k : IsUpkept answer new.engine) where
      abbrev replied : Result (Unit {0}) DeviceFault
      replied = answer_of (ram new.engine) good_then answer

      here : IsWell view.flash old → Knows (ram old.engine) (image_in view.flash old.engine)
      here well = knows_well view.flash old device well may.going

      logs_done : view.honest old.engine.nand ≡ true → replied ≢ Err BusFault → Logs view command old replied new
      logs_done is_honest ne =
          let w = went_after view old.engine new.engine new.engine answer replied good_then refl refl (k.kept.ends.went is_honest) ne in
          record {
            went = w;
            shown = λ well. flush_shown view old.engine new.engine new.engine w old.read_only answer replied good_then refl device.engine.memory k.kept.ends.limits.share k.kept.ends.safe.memory k.kept.ends.geometry refl refl k.kept.ends.tells (k.lacks is_honest (here well)) (k.kept.truth is_honest (here well)) ne;
            left = λ well on. k.left is_honest (here well) w new.read_only device'.read_only on;
            flushed = λ well its done. done_only _ answer good_then (ram new.engine) (k.worth is_honest (here well) w its) done;
            stopped = λ well. stopped_call view old.engine new.engine command replied w.log device.engine w.records (k.kept.ends.stops is_honest (here well) (λ bus. ne (ap (answer_of (ram new.engine) good_then) bus)))
                (inl (kept_array old.engine.geometry (image_in view.flash old.engine) (image_in view.flash new.engine) (ram new.engine) (ram new.engine) good_then answer (k.kept.truth is_honest (here well)) ne));
            dead = λ well. dead_call view old.engine new.engine w.log device.engine w.records (k.kept.ends.stops is_honest (here well) (λ bus. ne (ap (answer_of (ram new.engine) good_then) bus)));
          }

      means_done : view.honest old.engine.nand ≡ true → Knows (ram old.engine) (image_in view.flash old.engine) → replied ≢ Err BusFault → Means view.flash command old replied new
      means_done is_honest known ne =
          let after = well_device view.flash new new.engine refl (flush_well answer replied good_then _ _ _ (ram new.engine) (ram new.engine) k.kept.ends.fault refl ne (k.kept.truth is_honest known)) in
          record {
            step = takes _ _
                (quiet_step old.engine.geometry new.engine.geometry (image_in view.flash old.engine) (image_in view.flash new.engine) (ram old.engine)
                (ram new.engine) old.read_only new.read_only good_then may.writable device'.read_only k.kept.ends.geometry answer k.kept.ends.tells
                (k.kept.truth is_honest known) k.no_memory ne);
            well = after;
            versions = kept_versions old.engine.geometry (image_in view.flash old.engine) (image_in view.flash new.engine) (ram new.engine) (ram new.engine) good_then answer (k.kept.truth is_honest known) ne;
            mountable = λ most. mountable_after view.flash old.engine new new.engine refl k.kept.ends.geometry k.kept.ends.limits device'.engine.memory after most;
          }

      upkeep_done : Upkeeps view command old replied new
      upkeep_done = record {
        stays = record { limits = k.kept.ends.limits; honest_is = k.kept.ends.die.honest_is; calm_is = k.kept.ends.die.calm_is; asked = k.kept.ends.die.asked; failed_is = k.kept.ends.die.failed_is };
        refuses = refuses_made view.failed old new may.going may.writable answer k.kept.ends.fault k.kept.ends.tells k.kept.ends.rose;
        refuses_upkeep = record {
          read_only = λ going on. (let off : old.read_only ≡ false = may.writable in let no : ⊥ = cc in absurd no);
          spent = λ going off last. absurd (omega (arith, may.sequence, last));
          within = λ e. not_past answer (ram new.engine) good_then e;
          memory = λ e. k.no_memory (memory_only answer replied good_then (ram new.engine) refl e);
        };
        logs = logs_done;
        cut = λ is_honest well going bus. cut_kept view old.engine new.engine command device.engine (k.kept.cut is_honest (here well) (rose_of (answer ≡ Err (call.Engine engine_fault.Bus)) answer (ram new.engine) good_then (λ e. e) bus));
        means = λ is_honest well ne. means_done is_honest (here well) ne;
      }

    -- the device noted nothing else
    pub upkept_by : (mid : Engine N) (good : ℕ) (answer : Result (Unit {0}) CallFault) (result : Result (Unit {0}) DeviceFault) → new.engine ≡ mid
        → good ≡ good_then → result ≡ answer_of (ram new.engine) good answer → IsUpkept answer mid
        → Upkeeps view command old result new
    upkept_by mid good answer result same many is kept =
        let done = upkeep_done answer (subst (IsUpkept answer) (sym same) kept) in
        subst (λ r. Upkeeps view command old r new) (sym (is ∙ ap (λ k. answer_of (ram new.engine) k answer) many)) done

-- a flush pins no block, unless it was stopped short
pub flush_pins : {N : Type 0} (answer : Result (Unit {0}) CallFault) (old e last : Engine N) (result : Result (Unit {0}) DeviceFault) (good : ℕ)
    → answer ≢ Err call.OutOfMemory → last ≡ e → result ≡ answer_of (ram last) good answer → OnOk answer (old.pinned ≡ None → e.pinned ≡ None)
    → old.pinned ≡ None → IsSome last.pinned → MayPin result
flush_pins {N} answer old e last result good memory same is pins none some =
    subst MayPin (sym is) (pins_of answer old last (ram last) good (by answer memory pins) none some)
  where
    by : (a : Result (Unit {0}) CallFault) → a ≢ Err call.OutOfMemory → OnOk a (old.pinned ≡ None → e.pinned ≡ None) → PinsNone a old last
    by (Ok done) ne h = λ free. ap (λ (x : Engine N). x.pinned) same ∙ h free
    by (Err (call.Engine fault)) ne h = tt
    by (Err call.OutOfMemory) ne h = absurd (ne refl)

-- ---- it was refused at once

module _ (r : Ram) (ro : Bool) where
  why_not : (fault : DeviceFault) → MayNotFlush r ro fault → Why r fault
  why_not OutOfRange not = absurd not
  why_not (ReadOnly good wanted lost) not = (not.going, not.short)
  why_not SequenceSpent not = (not.going, not.last)
  why_not OutOfMemory not = not
  why_not Damaged not = not
  why_not BusFault not = not

  closed_is : (fault : DeviceFault) → MayNotFlush r ro fault → stop_of r.fault ≡ None → ro ≡ true → fault ≡ ReadOnly (good_count r.blocks.table) (need_at r.geometry r.mapping.share) 0
  closed_is OutOfRange not going on = absurd not
  closed_is (ReadOnly good wanted lost) not going on =
      let a : good ≡ good_count r.blocks.table = not.short.good_is in
      let b : wanted ≡ need_at r.geometry r.mapping.share = not.short.wanted_is in
      let c : lost ≡ 0 = omega (arith, a, not.short.failed_is) in cc
  closed_is SequenceSpent not going on = (let off : ro ≡ false = not.writable in let no : ⊥ = cc in absurd no)
  closed_is OutOfMemory not going on = absurd not
  closed_is Damaged not going on = (let no : ⊥ = cc in absurd no)
  closed_is BusFault not going on = (let no : ⊥ = cc in absurd no)

  spent_is : (fault : DeviceFault) → MayNotFlush r ro fault → stop_of r.fault ≡ None → ro ≡ false → fault ≡ SequenceSpent
  spent_is OutOfRange not going off = absurd not
  spent_is (ReadOnly good wanted lost) not going off = (let on : ro ≡ true = not.closed in let no : ⊥ = cc in absurd no)
  spent_is SequenceSpent not going off = refl
  spent_is OutOfMemory not going off = absurd not
  spent_is Damaged not going off = (let no : ⊥ = cc in absurd no)
  spent_is BusFault not going off = (let no : ⊥ = cc in absurd no)

  -- neither names a sector, and neither wants memory
  refused_otherwise : (fault : DeviceFault) → MayNotFlush r ro fault → (fault ≢ OutOfRange) × (fault ≢ OutOfMemory)
  refused_otherwise OutOfRange not = absurd not
  refused_otherwise (ReadOnly good wanted lost) not = (λ e. (let no : ⊥ = cc in no), λ e. (let no : ⊥ = cc in no))
  refused_otherwise SequenceSpent not = (λ e. (let no : ⊥ = cc in no), λ e. (let no : ⊥ = cc in no))
  refused_otherwise OutOfMemory not = absurd not
  refused_otherwise Damaged not = (λ e. (let no : ⊥ = cc in no), λ e. (let no : ⊥ = cc in no))
  refused_otherwise BusFault not = (λ e. (let no : ⊥ = cc in no), λ e. (let no : ⊥ = cc in no))

  quiet_refusal : (s : ArrayState) (fault : DeviceFault) → s.ro ≡ ro → MayNotFlush r ro fault → stop_of r.fault ≡ None → QuietStep s (reply_of (Err fault)) s
  quiet_refusal s OutOfRange same not going = absurd not
  quiet_refusal s (ReadOnly good wanted lost) same not going = record { array_is = refl; read_only = same ∙ not.closed }
  quiet_refusal s SequenceSpent same not going = record { writable = same ∙ not.writable; array_is = refl }
  quiet_refusal s OutOfMemory same not going = absurd not
  quiet_refusal s Damaged same not going = (let no : ⊥ = cc in absurd no)
  quiet_refusal s BusFault same not going = (let no : ⊥ = cc in absurd no)

module _ {N : Type 0} (view : View N) (command : Command) (old : Device N) (device : IsDevice view.flash old)
    (takes : (reply : Reply) (s : ArrayState) → QuietStep (state_in view.flash old) reply s → ArrayStep old.engine.geometry (state_in view.flash old) command reply s) where
  pub not_upkept : (fault : DeviceFault) → MayNotFlush (ram old.engine) old.read_only fault → Upkeeps view command old (Err fault) old
  not_upkept fault not = record {
    stays = stays_same view old;
    refuses = refuses_at_once view.failed old fault (why_not (ram old.engine) old.read_only fault not);
    refuses_upkeep = record {
      read_only = λ going on. ap Err (closed_is (ram old.engine) old.read_only fault not going on);
      spent = λ going off last. (ap Err (spent_is (ram old.engine) old.read_only fault not going off), refl);
      within = λ e. (refused_otherwise (ram old.engine) old.read_only fault not).0 (cc);
      memory = λ e. (refused_otherwise (ram old.engine) old.read_only fault not).1 (cc);
    };
    logs = λ is_honest ne.
        let w = went_same (ram old.engine) (view.flash old.engine.nand) (view.recorded old.engine.nand) in
        record {
          went = w;
          shown = λ well. flush_refused (ram old.engine) (view.flash old.engine.nand) w old.read_only fault device.engine.memory well.truth well.going not;
          left = λ well on. flush_left_refused command (ram old.engine) w.log old.read_only fault not;
          flushed = λ well its done. (let no : ⊥ = cc in absurd no);
          stopped = λ well. stopped_call view old.engine old.engine command (Err fault) w.log device.engine w.records (stops_same view old.engine device.engine well.truth) (inl refl);
          dead = λ well. dead_call view old.engine old.engine w.log device.engine w.records (stops_same view old.engine device.engine well.truth);
        };
    cut = λ is_honest well going bus. rose_refusal (ram old.engine) _ fault (why_not (ram old.engine) old.read_only fault not) going bus;
    means = λ is_honest well ne. record {
      step = takes _ _ (quiet_refusal (ram old.engine) old.read_only (state_in view.flash old) fault refl not well.going);
      well = well;
      versions = λ two key row at. at;
      mountable = λ most. restart_law (ram old.engine) _ device.engine.memory well.truth most;
    };
  }
