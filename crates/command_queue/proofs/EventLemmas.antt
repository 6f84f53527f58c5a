-- What the events of a run say of the calls that they are.
use Rattle.std.proofs.Common.{◌≡◌, ◌⊎◌, ℕ, ◌==◌, Bool, true, false, not, ◌&&◌, List, [], ◌∷◌, ◌++◌, Some, None, Ok, Err, inl, inr, sym, ap, subst, ◌∙◌, refl}
use Rattle.std.specs.Prelude.{IsSome}
use Rattle.page_layout.specs.View.{View}
use Rattle.page_layout.specs.declared.geometry.Geometry.{Geometry}
use Rattle.page_layout.specs.Page.{Image}
use Rattle.page_layout.specs.Array.{array_of}
use Rattle.page_layout.specs.Flash.{Operation}
use Rattle.page_layout.specs.Recording.{Records}
use Rattle.page_layout.proofs.RecordingLemmas.{records_join, records_none}
use Rattle.page_layout.proofs.VersionLemmas.{no_more_old}
use Rattle.promises.specs.Step as step
use Rattle.promises.specs.Run as runs
use Rattle.promises.specs.Run.{Event, log_of}
use Rattle.image_check.specs.Stale.{is_stale}
use Rattle.collection.specs.Safe.{image_in}
use Rattle.ftl_device.specs.declared.device.Device.{Device}
use Rattle.ftl_device.specs.declared.fault.DeviceFault.TheVariants.{ReadOnly, SequenceSpent, Damaged}
use Rattle.ftl_device.specs.Counts.{IsLeftReadOnly, IsShownByRefusal}
use Rattle.ftl_device.specs.Changes.{MayPin}
use Rattle.ftl_device.specs.Flush.{First}
use Rattle.ftl_device.specs.Stopped.{changes_sector, HoldsEither}
use Rattle.command_queue.specs.Commands.{needs_no_memory}
use Rattle.command_queue.specs.Exchanges.{Exchange}
use Rattle.command_queue.specs.Tells.{die_in}
use Rattle.command_queue.specs.Run.{AreFair, IsEventOf, HappensEach}
use Rattle.command_queue.specs.Events.{LeavesEither, EachLeavesEither, EventTellsLaw, RunStopsLaw, RunRecordsLaw, StaleMemoryLaw, QuietMemoryLaw}
use Rattle.command_queue.specs.Events.{ReadOnlyEventLaw, SpentEventLaw, LeftEventLaw, FlushEventLaw, ReadEventLaw, PinEventLaw, ImageEventLaw}

module _ {N : Type 0} (view : View N) where
  pub event_tells : EventTellsLaw view
  event_tells old new event x r is some = is.told ∙ some

  -- ---- a stop

  either : (g : Geometry) (x : Exchange) (before after left : Image) → HoldsEither g x.command x.result before after left
      → (array_of g left ≡ array_of g before) ⊎ (array_of g left ≡ array_of g after)
  either g x before after left (inl same) = inl same
  either g x before after left (inr done) = inr done.2

  one_stops : (first : First) (old mid : Device N) (before : List Operation) (event : Event) (x : Exchange) → IsEventOf view old event x mid
      → AreFair first (die_in view.flash old) before (event ∷ []) (x ∷ []) → IsSome (view.recorded mid.engine.nand)
      → LeavesEither first.geometry event.piece (image_in view.flash old.engine) (image_in view.flash mid.engine)
  one_stops first old mid before event x is fair some left may =
      let told : IsSome event.told = subst IsSome (sym is.told) some in
      let here = either first.geometry x (image_in view.flash old.engine) event.left.flash.image left (fair.0.stopped told left may).array in
      subst (λ (d : runs.DeviceView). (array_of first.geometry left ≡ array_of first.geometry (image_in view.flash old.engine)) ⊎ (array_of first.geometry left ≡ array_of first.geometry d.flash.image)) is.left here

  pub run_stops : RunStopsLaw view
  run_stops first old new before [] [] each fair = tt
  run_stops first old new before [] (x ∷ xs) each fair = fair
  run_stops first old new before (event ∷ events) [] each fair = fair
  run_stops first old new before (event ∷ events) (x ∷ xs) (mid, is, each) fair = (
    one_stops first old mid before event x is (fair.0, tt),
    run_stops first mid new (before ++ event.piece) events xs each (subst (λ d. AreFair first d (before ++ event.piece) events xs) is.left fair.1),
  )

  -- ---- the record

  pub run_records : RunRecordsLaw view
  run_records old new [] [] same = (ap (λ (d : Device N). view.recorded d.engine.nand) same) ∙ records_none (view.recorded old.engine.nand)
  run_records old new [] (x ∷ xs) never = absurd never
  run_records old new (event ∷ events) [] never = absurd never
  run_records old new (event ∷ events) (x ∷ xs) (mid, is, each) =
      let here : Records (view.recorded old.engine.nand) event.piece (view.recorded mid.engine.nand) = subst (λ l. Records (view.recorded old.engine.nand) l (view.recorded mid.engine.nand)) (sym is.piece) is.happened.went.records in
      records_join (view.recorded old.engine.nand) (view.recorded mid.engine.nand) (view.recorded new.engine.nand) event.piece (log_of events) here (run_records mid new events xs each)

-- ---- memory

no_memory_write : (share : ℕ) (pinned : Bool) (g : Geometry) (image : Image) (sector : ℕ) (body : List ℕ) → share ≡ 0 → pinned ≡ false → is_stale g image sector ≡ true → needs_no_memory share pinned g image (step.Write sector body) ≡ true
no_memory_write share pinned g image sector body none off stale = ap (λ n. n == 0 && not pinned && is_stale g image sector) none ∙ (ap (λ p. not p && is_stale g image sector) off ∙ stale)

no_memory_trim : (share : ℕ) (pinned : Bool) (g : Geometry) (image : Image) (sector : ℕ) → share ≡ 0 → pinned ≡ false → is_stale g image sector ≡ true → needs_no_memory share pinned g image (step.Trim sector) ≡ true
no_memory_trim share pinned g image sector none off stale = ap (λ n. n == 0 && not pinned && is_stale g image sector) none ∙ (ap (λ p. not p && is_stale g image sector) off ∙ stale)

no_memory_quiet : (share : ℕ) (pinned : Bool) (g : Geometry) (image : Image) (command : step.Command) → changes_sector command ≡ false → needs_no_memory share pinned g image command ≡ true
no_memory_quiet share pinned g image (step.Read sector) quiet = refl
no_memory_quiet share pinned g image (step.Write sector body) quiet = absurd (cc)
no_memory_quiet share pinned g image (step.Trim sector) quiet = absurd (cc)
no_memory_quiet share pinned g image step.Flush quiet = refl
no_memory_quiet share pinned g image step.Turn quiet = refl

pub stale_memory : StaleMemoryLaw
stale_memory first old before event x sector body fair none off stale (inl writes) =
    fair.stale (ap (needs_no_memory first.share old.pinned first.geometry old.flash.image) writes ∙ no_memory_write first.share old.pinned first.geometry old.flash.image sector body none off stale)
stale_memory first old before event x sector body fair none off stale (inr trims) =
    fair.stale (ap (needs_no_memory first.share old.pinned first.geometry old.flash.image) trims ∙ no_memory_trim first.share old.pinned first.geometry old.flash.image sector none off stale)

pub quiet_memory : QuietMemoryLaw
quiet_memory first old before event x fair quiet = fair.stale (no_memory_quiet first.share old.pinned first.geometry old.flash.image x.command quiet)

-- ---- what is fair

pub read_only_event : ReadOnlyEventLaw
read_only_event first old before event x good wanted failed fair is =
    let its = fair.shown (ReadOnly good wanted failed) is in
    (its.0.scarce, its.0.good_is, its.0.wanted_is, its.0.failed_is, its.1)

pub spent_event : SpentEventLaw
spent_event first old before event x fair = (fair.shown SequenceSpent, fair.shown Damaged)

pub left_event : LeftEventLaw
left_event first old before event x fair done on =
    subst (IsLeftReadOnly x.command first.geometry first.share first.bad before event.piece old.ro) done (fair.left on)

pub flush_event : FlushEventLaw
flush_event first old before event x fair flushes done = (fair.flushed flushes done).fresh

pub read_event : ReadEventLaw
read_event first old before event x fair = fair.reads

pub pin_event : PinEventLaw
pin_event first old before event x fair off done on = elim (fair.pins off on) [
  | inl turns ↦ turns
  | inr may ↦ absurd (subst MayPin done may)
]

pub image_event : ImageEventLaw
image_event first old before event x fair = (fair.mountable, λ two. no_more_old first.geometry old.flash.image event.left.flash.image two fair.versions)
