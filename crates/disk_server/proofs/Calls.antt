-- One call of the device as one call of a disk.
use Rattle.std.proofs.Common.{◌≡◌, ◌≢◌, ◌*◌, ◌<◌, inl, inr, ℕ, true, false, List, [], length, replicate, Option, Some, None, Result, Ok, Err, refl, sym, ap, ◌∙◌, subst, arith}
use Rattle.std.specs.Prelude.{◌↔◌, slice_index, IfOk, IfErr, IsSome, OnOk, OnErr}
use Rattle.std.specs.Option.{ForSome}
use Rattle.page_layout.specs.View.{View}
use Rattle.page_layout.specs.declared.geometry.Geometry.{Geometry}
use Rattle.page_layout.specs.Array.{zeros}
use Rattle.promises.specs.Step as step
use Rattle.promises.specs.Step.{ArrayState, Command, Reply, ArrayStep, ReadStep, WriteStep, QuietStep}
use Rattle.promises.proofs.StepLemmas as steps
use Rattle.nbd_stream.specs.declared.fault.DiskFault.TheVariants as fault
use Rattle.nbd_stream.specs.declared.reply.RequestError.{RequestError}
use Rattle.nbd_stream.specs.declared.task.Task.{Task}
use Rattle.nbd_stream.specs.declared.task.Task.TheVariants.{Write, Flush, Trim}
use Rattle.nbd_stream.specs.Disk.{Idles, MayFailWith, IsOfChange, PerformsTask, answer_from, count_given, error_for, with_bytes}
use Rattle.disk_server.specs.Flat.{AreSectors, flat}
use Rattle.disk_server.proofs.FlatLemmas.{flat_law}
use Rattle.collection.specs.declared.fault.EngineFault.{EngineFault}
use Rattle.collection.specs.declared.fault.EngineFault.TheVariants as engine_fault
use Rattle.collection.specs.State.{Ram}
use Rattle.collection.specs.Safe.{ram}
use Rattle.ftl_device.specs.declared.device.Device.{Device}
use Rattle.ftl_device.specs.declared.fault.DeviceFault.{DeviceFault}
use Rattle.ftl_device.specs.declared.fault.DeviceFault.TheVariants.{OutOfRange, ReadOnly, SequenceSpent, OutOfMemory, Damaged, BusFault}
use Rattle.ftl_device.specs.Device.{IsDevice}
use Rattle.ftl_device.specs.Calls.{array_in, state_in, stop_of, reply_of, reply_of_fault, IsWell, Says}
use Rattle.ftl_device.specs.Changes.{Changes, Upkeeps, Means, Stays, RefusesCall}
use Rattle.disk_server.specs.Disk.{holds, contents_of, IsDisk, KeepsOnError, change_fault, change_answer, flush_answer, rest_answer}
use Rattle.disk_server.proofs.Sizes.{zeros_long}
use Rattle.disk_server.proofs.Tasks.{Sets, lasting, performs_by}
use Rattle.disk_server.proofs.Holding.{parts, back, kept, bytes, held, sized, array_sectors_of, array_count}

-- ---- answers

pub not_done : (e : DeviceFault) → reply_of_fault e ≢ step.Done
not_done OutOfRange = λ x. cc
not_done (ReadOnly good wanted failed) = λ x. cc
not_done SequenceSpent = λ x. cc
not_done OutOfMemory = λ x. cc
not_done Damaged = λ x. cc
not_done BusFault = λ x. cc

of_change : (e : DeviceFault) → IsOfChange (error_for (change_fault e))
of_change OutOfRange = inl refl
of_change (ReadOnly good wanted failed) = inr (inl refl)
of_change SequenceSpent = inr (inl refl)
of_change OutOfMemory = inr (inr refl)
of_change Damaged = inl refl
of_change BusFault = inl refl

-- an answer without an error comes of a call that stopped nothing
going_on : {P : Type 0} (result : Result (Unit {0}) DeviceFault) → (result ≢ Err Damaged → result ≢ Err BusFault → P) → OnOk (answer_from (change_answer result) []) P
going_on (Ok done) then = then (λ x. cc) (λ x. cc)
going_on (Err e) then = tt

flush_going : {P : Type 0} (result : Result (Unit {0}) DeviceFault) → (result ≢ Err Damaged → result ≢ Err BusFault → P) → OnOk (answer_from (flush_answer result) []) P
flush_going (Ok done) then = then (λ x. cc) (λ x. cc)
flush_going (Err OutOfRange) then = tt
flush_going (Err (ReadOnly good wanted failed)) then = then (λ x. cc) (λ x. cc)
flush_going (Err SequenceSpent) then = then (λ x. cc) (λ x. cc)
flush_going (Err OutOfMemory) then = tt
flush_going (Err Damaged) then = tt
flush_going (Err BusFault) then = tt

rest_going : {P : Type 0} (result : Result (Unit {0}) DeviceFault) → (result ≢ Err Damaged → result ≢ Err BusFault → P) → OnOk (rest_answer result) P
rest_going (Ok done) then = then (λ x. cc) (λ x. cc)
rest_going (Err OutOfRange) then = then (λ x. cc) (λ x. cc)
rest_going (Err (ReadOnly good wanted failed)) then = then (λ x. cc) (λ x. cc)
rest_going (Err SequenceSpent) then = then (λ x. cc) (λ x. cc)
rest_going (Err OutOfMemory) then = then (λ x. cc) (λ x. cc)
rest_going (Err Damaged) then = tt
rest_going (Err BusFault) then = tt

rest_fault : (result : Result (Unit {0}) DeviceFault) → IfErr (rest_answer result) (λ e. e ≡ fault.Failed)
rest_fault (Ok done) = tt
rest_fault (Err OutOfRange) = tt
rest_fault (Err (ReadOnly good wanted failed)) = tt
rest_fault (Err SequenceSpent) = tt
rest_fault (Err OutOfMemory) = tt
rest_fault (Err Damaged) = refl
rest_fault (Err BusFault) = refl

-- a rest fails just where the device is stopped after it
rest_stops : (old new : Ram) (result : Result (Unit {0}) DeviceFault) → IfErr result (Says old new) → rest_answer result ≡ Err fault.Failed → IsSome (stop_of new.fault)
rest_stops old new (Ok done) says failed = (let no : ⊥ = cc in absurd no)
rest_stops old new (Err OutOfRange) says failed = (let no : ⊥ = cc in absurd no)
rest_stops old new (Err (ReadOnly good wanted grown)) says failed = (let no : ⊥ = cc in absurd no)
rest_stops old new (Err SequenceSpent) says failed = (let no : ⊥ = cc in absurd no)
rest_stops old new (Err OutOfMemory) says failed = (let no : ⊥ = cc in absurd no)
rest_stops old new (Err Damaged) says failed = subst (λ (o : Option DeviceFault). IsSome o) (sym says) refl
rest_stops old new (Err BusFault) says failed = subst (λ (o : Option DeviceFault). IsSome o) (sym says) refl

rest_stopped : (f : Option EngineFault) (result : Result (Unit {0}) DeviceFault) → ForSome (stop_of f) (λ fault. result ≡ Err fault) → IsSome (stop_of f) → rest_answer result ≡ Err fault.Failed
rest_stopped None result standing some = (let no : ⊥ = cc in absurd no)
rest_stopped (Some engine_fault.ReadOnly) result standing some = (let no : ⊥ = cc in absurd no)
rest_stopped (Some engine_fault.SequenceSpent) result standing some = (let no : ⊥ = cc in absurd no)
rest_stopped (Some engine_fault.Damaged) result standing some = ap rest_answer (standing Damaged refl)
rest_stopped (Some engine_fault.Bus) result standing some = ap rest_answer (standing BusFault refl)

-- ---- what a step sets

-- done, these bytes stand at the place; not done, all is as it was
abbrev IsSetAt : (place : ℕ) → (set before : List ℕ) → Result (Unit {0}) DeviceFault → List ℕ → Type 0
IsSetAt place set before (Ok done) after = after ≡ with_bytes place set before
IsSetAt place set before (Err e) after = after ≡ before

sets_at : (g : Geometry) (n : ℕ) (set : List ℕ) (s t : ArrayState) (result : Result (Unit {0}) DeviceFault) → AreSectors g.data_bytes s.array → n < length s.array
    → length set ≡ g.data_bytes → WriteStep g s n set (reply_of result) t → IsSetAt (n * g.data_bytes) set (flat s.array) result (flat t.array)
sets_at g n set s t (Ok done) are within its_long h = ap flat h.array_is ∙ (flat_law g.data_bytes n set s.array are within its_long).2
sets_at g n set s t (Err e) are within its_long h = ap flat (steps.kept g s t (step.Write n set) (reply_of_fault e) (not_done e) h)

sets_write : (o c : ℕ) (set before after : List ℕ) (result : Result (Unit {0}) DeviceFault) → IsSetAt o set before result after
    → Sets (Write o c false) set before (answer_from (change_answer result) []) after
sets_write o c set before after (Ok done) is = record { done = is; gave = refl; not_done = tt }
sets_write o c set before after (Err e) is = record { done = tt; gave = tt; not_done = is }

sets_trim : (o c : ℕ) (before after : List ℕ) (result : Result (Unit {0}) DeviceFault) → IsSetAt o (replicate c 0) before result after
    → Sets (Trim o c false) [] before (answer_from (change_answer result) []) after
sets_trim o c before after (Ok done) is = record { done = is; gave = refl; not_done = tt }
sets_trim o c before after (Err e) is = record { done = tt; gave = tt; not_done = is }

sets_flush : (before after : List ℕ) (result : Result (Unit {0}) DeviceFault) → after ≡ before → Sets Flush [] before (answer_from (flush_answer result) []) after
sets_flush before after (Ok done) is = record { done = is; gave = refl; not_done = tt }
sets_flush before after (Err OutOfRange) is = record { done = tt; gave = tt; not_done = is }
sets_flush before after (Err (ReadOnly good wanted failed)) is = record { done = is; gave = refl; not_done = tt }
sets_flush before after (Err SequenceSpent) is = record { done = is; gave = refl; not_done = tt }
sets_flush before after (Err OutOfMemory) is = record { done = tt; gave = tt; not_done = is }
sets_flush before after (Err Damaged) is = record { done = tt; gave = tt; not_done = is }
sets_flush before after (Err BusFault) is = record { done = tt; gave = tt; not_done = is }

flush_may : (result : Result (Unit {0}) DeviceFault) → IfErr (answer_from (flush_answer result) []) (MayFailWith Flush)
flush_may (Ok done) = tt
flush_may (Err OutOfRange) = refl
flush_may (Err (ReadOnly good wanted failed)) = tt
flush_may (Err SequenceSpent) = tt
flush_may (Err OutOfMemory) = refl
flush_may (Err Damaged) = refl
flush_may (Err BusFault) = refl

flush_gives : (result : Result (Unit {0}) DeviceFault) → IfOk (answer_from (flush_answer result) []) (λ given. length given ≡ 0)
flush_gives (Ok done) = refl
flush_gives (Err OutOfRange) = tt
flush_gives (Err (ReadOnly good wanted failed)) = refl
flush_gives (Err SequenceSpent) = refl
flush_gives (Err OutOfMemory) = tt
flush_gives (Err Damaged) = tt
flush_gives (Err BusFault) = tt

keeps_by : {P : Type 0} (place : ℕ) (set before after : List ℕ) (result : Result (Unit {0}) DeviceFault) → (P → IsSetAt place set before result after)
    → OnErr (change_answer result) (P → lasting after ≡ lasting before)
keeps_by place set before after (Ok done) at = tt
keeps_by place set before after (Err e) at = λ p. ap lasting (at p)

err_may : (task : Task) (result : Result (Unit {0}) DeviceFault) → ((r : RequestError) → IsOfChange r → MayFailWith task r) → IfErr (answer_from (change_answer result) []) (MayFailWith task)
err_may task (Ok done) may = tt
err_may task (Err e) may = may (error_for (change_fault e)) (of_change e)

ok_gives : (task : Task) (result : Result (Unit {0}) DeviceFault) → count_given task ≡ 0 → IfOk (answer_from (change_answer result) []) (λ given. length given ≡ count_given task)
ok_gives task (Ok done) none = sym none
ok_gives task (Err e) none = tt

-- ---- a call that may change a sector, and one that changes none

-- a call that the device does not stop in did not answer so
pub no_bus : (old new : Ram) (result : Result (Unit {0}) DeviceFault) → IfErr result (Says old new) → stop_of new.fault ≡ None → result ≢ Err BusFault
no_bus old new (Ok done) says going = λ x. cc
no_bus old new (Err OutOfRange) says going = λ x. cc
no_bus old new (Err (ReadOnly good wanted failed)) says going = λ x. cc
no_bus old new (Err SequenceSpent) says going = λ x. cc
no_bus old new (Err OutOfMemory) says going = λ x. cc
no_bus old new (Err Damaged) says going = λ x. cc
no_bus old new (Err BusFault) says going = λ x. (let no : ⊥ = cc in absurd no)

module _ {N : Type 0} (view : View N) where
  module _ (old new : Device N) (result : Result (Unit {0}) DeviceFault) (command : Command) (was : IsDisk view old)
      (stays : Stays view old new) (refuses : RefusesCall view.failed old result new)
      (means : view.honest old.engine.nand ≡ true → IsWell view.flash old → result ≢ Err BusFault → Means view.flash command old result new) where
    back_here : holds view.honest new ≡ true → holds view.honest old ≡ true
    back_here = back view.honest old new result stays.honest_is refuses.stopped

    kept_here : result ≢ Err Damaged → result ≢ Err BusFault → holds view.honest new ≡ holds view.honest old
    kept_here = kept view.honest old new result stays.honest_is refuses.stopped refuses.standing

    meant : holds view.honest new ≡ true → Means view.flash command old result new
    meant h =
        let before = back_here h in
        means (parts view.honest old before).0 (was.well before) (no_bus (ram old.engine) (ram new.engine) result refuses.says (parts view.honest new h).1)

    still_disk : IsDevice view.flash new → IsDisk view new
    still_disk device = record { device = device; well = λ h. (meant h).well }

  -- ---- a write and a trim

  module _ (n : ℕ) (set : List ℕ) (command : Command) (old new : Device N) (result : Result (Unit {0}) DeviceFault) (was : IsDisk view old)
      (its : Changes view n command old result new) where
    pub changed_disk : IsDevice view.flash new → IsDisk view new
    changed_disk = still_disk old new result command was its.stays its.refuses its.means

    module _ (within : n < old.engine.geometry.sectors) (its_long : length set ≡ old.engine.geometry.data_bytes)
        (is : ArrayStep old.engine.geometry (state_in view.flash old) command (reply_of result) (state_in view.flash new)
        → WriteStep old.engine.geometry (state_in view.flash old) n set (reply_of result) (state_in view.flash new)) where
      set_here : holds view.honest new ≡ true → IsSetAt (n * old.engine.geometry.data_bytes) set (bytes view old) result (bytes view new)
      set_here h =
          let before : holds view.honest old ≡ true = back_here old new result command was its.stays its.refuses its.means h in
          let set_in = sets_at old.engine.geometry n set (state_in view.flash old) (state_in view.flash new) result (array_sectors_of view old was before)
          (omega (arith, array_count view old, within)) its_long (is (meant old new result command was its.stays its.refuses its.means h).step) in
          subst (λ (l : List ℕ). IsSetAt (n * old.engine.geometry.data_bytes) set (bytes view old) result l) (sym (held view new h))
          (subst (λ (l : List ℕ). IsSetAt (n * old.engine.geometry.data_bytes) set l result (flat (array_in view.flash new))) (sym (held view old before)) set_in)

      pub keeps_here : KeepsOnError view old (change_answer result) new
      keeps_here = keeps_by (n * old.engine.geometry.data_bytes) set (bytes view old) (bytes view new) result set_here

      module _ (sized_is : new.engine.geometry ≡ old.engine.geometry) (device : IsDevice view.flash new) (task : Task) (body : List ℕ) where
        changed : ((r : RequestError) → IsOfChange r → MayFailWith task r) → count_given task ≡ 0
            → (IsSetAt (n * old.engine.geometry.data_bytes) set (bytes view old) result (bytes view new)
            → Sets task body (bytes view old) (answer_from (change_answer result) []) (bytes view new))
            → PerformsTask (contents_of view) (holds view.honest) (λ d. false) task body old (answer_from (change_answer result) []) new
        changed may none sets = performs_by (bytes view) (holds view.honest) task body old (answer_from (change_answer result) []) new
            (sized view old new was (changed_disk device) sized_is)
            (going_on result (kept_here old new result command was its.stays its.refuses its.means))
            (back_here old new result command was its.stays its.refuses its.means)
            (err_may task result may)
            (ok_gives task result none)
            (λ h. sets (set_here h))

  -- a write of a sector
  module _ (n : ℕ) (body : List ℕ) (old new : Device N) (result : Result (Unit {0}) DeviceFault) (was : IsDisk view old) (within : n < old.engine.geometry.sectors)
      (its_long : length body ≡ old.engine.geometry.data_bytes) (its : Changes view n (step.Write n body) old result new) where
    pub write_keeps : KeepsOnError view old (change_answer result) new
    write_keeps = keeps_here n body (step.Write n body) old new result was its within its_long (λ s. s)

    pub write_performs : new.engine.geometry ≡ old.engine.geometry → IsDevice view.flash new
        → PerformsTask (contents_of view) (holds view.honest) (λ d. false) (Write (n * old.engine.geometry.data_bytes) old.engine.geometry.data_bytes false) body old
        (answer_from (change_answer result) []) new
    write_performs same device = changed n body (step.Write n body) old new result was its within its_long (λ s. s) same device
        (Write (n * old.engine.geometry.data_bytes) old.engine.geometry.data_bytes false) body (λ r of. of) refl
        (sets_write (n * old.engine.geometry.data_bytes) old.engine.geometry.data_bytes body (bytes view old) (bytes view new) result)

  -- a trim of one
  module _ (n : ℕ) (old new : Device N) (result : Result (Unit {0}) DeviceFault) (was : IsDisk view old) (within : n < old.engine.geometry.sectors)
      (its : Changes view n (step.Trim n) old result new) where
    pub trim_keeps : KeepsOnError view old (change_answer result) new
    trim_keeps = keeps_here n (zeros old.engine.geometry) (step.Trim n) old new result was its within (zeros_long old.engine.geometry) (λ s. s)

    pub trim_performs : new.engine.geometry ≡ old.engine.geometry → IsDevice view.flash new
        → PerformsTask (contents_of view) (holds view.honest) (λ d. false) (Trim (n * old.engine.geometry.data_bytes) old.engine.geometry.data_bytes false) [] old
        (answer_from (change_answer result) []) new
    trim_performs same device = changed n (zeros old.engine.geometry) (step.Trim n) old new result was its within (zeros_long old.engine.geometry) (λ s. s) same device
        (Trim (n * old.engine.geometry.data_bytes) old.engine.geometry.data_bytes false) [] (λ r of. of) refl
        (sets_trim (n * old.engine.geometry.data_bytes) old.engine.geometry.data_bytes (bytes view old) (bytes view new) result)

  -- ---- a flush and a turn

  module _ (command : Command) (old new : Device N) (result : Result (Unit {0}) DeviceFault) (was : IsDisk view old)
      (its : Upkeeps view command old result new)
      (quiet : ArrayStep old.engine.geometry (state_in view.flash old) command (reply_of result) (state_in view.flash new) → array_in view.flash new ≡ array_in view.flash old) where
    pub upkept_disk : IsDevice view.flash new → IsDisk view new
    upkept_disk = still_disk old new result command was its.stays its.refuses its.means

    same_bytes : holds view.honest new ≡ true → bytes view new ≡ bytes view old
    same_bytes h =
        let before : holds view.honest old ≡ true = back_here old new result command was its.stays its.refuses its.means h in
        held view new h ∙ ap flat (quiet (meant old new result command was its.stays its.refuses its.means h).step) ∙ sym (held view old before)

    idled : new.engine.geometry ≡ old.engine.geometry → IsDevice view.flash new → Idles (contents_of view) (holds view.honest) (λ d. false) old (rest_answer result) new
    idled same device = record {
      sized = sized view old new was (upkept_disk device) same;
      kept = rest_going result (kept_here old new result command was its.stays its.refuses its.means);
      was_honest = back_here old new result command was its.stays its.refuses its.means;
      calm_is = refl;
      fault = rest_fault result;
      calmly = λ never. (let no : ⊥ = cc in absurd no);
      bytes = same_bytes;
      stays = λ h p. inr (ap (λ (l : List ℕ). slice_index l p) (same_bytes h));
    }

    flushed : new.engine.geometry ≡ old.engine.geometry → IsDevice view.flash new
        → PerformsTask (contents_of view) (holds view.honest) (λ d. false) Flush [] old (answer_from (flush_answer result) []) new
    flushed same device = performs_by (bytes view) (holds view.honest) Flush [] old (answer_from (flush_answer result) []) new
        (sized view old new was (upkept_disk device) same)
        (flush_going result (kept_here old new result command was its.stays its.refuses its.means))
        (back_here old new result command was its.stays its.refuses its.means)
        (flush_may result)
        (flush_gives result)
        (λ h. sets_flush (bytes view old) (bytes view new) result (same_bytes h))

  module _ (old new : Device N) (result : Result (Unit {0}) DeviceFault) (was : IsDisk view old) where
    pub flush_performs : Upkeeps view step.Flush old result new → new.engine.geometry ≡ old.engine.geometry → IsDevice view.flash new
        → PerformsTask (contents_of view) (holds view.honest) (λ d. false) Flush [] old (answer_from (flush_answer result) []) new
    flush_performs its = flushed step.Flush old new result was its (steps.quiet old.engine.geometry (state_in view.flash old) (state_in view.flash new) (reply_of result)).0

    pub flush_disk : Upkeeps view step.Flush old result new → IsDevice view.flash new → IsDisk view new
    flush_disk its = upkept_disk step.Flush old new result was its (steps.quiet old.engine.geometry (state_in view.flash old) (state_in view.flash new) (reply_of result)).0

    pub turn_idles : Upkeeps view step.Turn old result new → new.engine.geometry ≡ old.engine.geometry → IsDevice view.flash new
        → Idles (contents_of view) (holds view.honest) (λ d. false) old (rest_answer result) new
    turn_idles its = idled step.Turn old new result was its (steps.quiet old.engine.geometry (state_in view.flash old) (state_in view.flash new) (reply_of result)).1

    pub turn_stops : Upkeeps view step.Turn old result new → (rest_answer result ≡ Err fault.Failed) ↔ IsSome (stop_of new.engine.fault)
    turn_stops its = (
      rest_stops (ram old.engine) (ram new.engine) result its.refuses.says,
      rest_stopped new.engine.fault result its.refuses.standing,
    )

    pub turn_disk : Upkeeps view step.Turn old result new → IsDevice view.flash new → IsDisk view new
    turn_disk its = upkept_disk step.Turn old new result was its (steps.quiet old.engine.geometry (state_in view.flash old) (state_in view.flash new) (reply_of result)).1
