-- Turns in a row.
use Rattle.std.proofs.Common.{◌≡◌, ◌≢◌, ◌⊎◌, inl, inr, ℕ, ◌<◌, ◌≤◌, ◌+◌, true, List, [], ◌∷◌, length, Result, Ok, Err, sym, ap, subst, ◌∙◌, arith}
use Rattle.std.specs.Prelude.{OnOk}
use Rattle.page_layout.specs.View.{View}
use Rattle.page_layout.specs.declared.geometry.Geometry.{Geometry}
use Rattle.page_layout.specs.Counter.{HasRisen}
use Rattle.page_layout.specs.Geometry.{need_at, flush_blocks_at}
use Rattle.bad_blocks.specs.Table.{good_count}
use Rattle.allocation.specs.State.{free_count}
use Rattle.promises.specs.Step as step
use Rattle.promises.specs.Log.{programs_in}
use Rattle.promises.specs.Run.{Event}
use Rattle.collection.specs.Safe.{ram, image_in}
use Rattle.collection.specs.Collect.{HasNoneAiling}
use Rattle.collection.specs.Left.{left}
use Rattle.ftl_device.specs.declared.device.Device.{Device}
use Rattle.ftl_device.specs.declared.fault.DeviceFault.{DeviceFault}
use Rattle.ftl_device.specs.declared.fault.DeviceFault.TheVariants.{BusFault}
use Rattle.ftl_device.specs.Device.{IsDevice}
use Rattle.ftl_device.specs.Calls.{IsWell, HasFallen, HasRescued, IsQuiet}
use Rattle.ftl_device.specs.Counts.{free_by, good_by}
use Rattle.ftl_device.proofs.CountLemmas.{free_now_law, good_now_law}
use Rattle.ftl_device.proofs.TurnLemmas.{left_below_law}
use Rattle.command_queue.specs.Commands.{is_turn}
use Rattle.command_queue.specs.Exchanges.{Exchange}
use Rattle.command_queue.specs.Rescues.{FailsNowhere}
use Rattle.command_queue.specs.Tells.{TakesTurn, TakesIfTurn}
use Rattle.command_queue.specs.Run.{IsEventOf, HappensEach}
use Rattle.command_queue.specs.Turns.{AreTurnsDone, FailNowhere, OneRests, TurnsInARowLaw, QuietTurnLaw, QuietEventLaw}
use Rattle.command_queue.proofs.RescueLemmas.{none_on}
use Rattle.command_queue.proofs.QuietLemmas.{joined_good, joined_free}

not_bus : (result : Result (Unit {0}) DeviceFault) → result ≡ Ok tt → result ≢ Err BusFault
not_bus result done is = (let no : ⊥ = cc in no)

module _ {N : Type 0} (view : View N) where
  takes_turn : (command : step.Command) (old new : Device N) (result : Result (Unit {0}) DeviceFault) → is_turn command ≡ true → TakesIfTurn view command old result new → TakesTurn view old result new
  takes_turn (step.Read sector) old new result is takes = (let no : ⊥ = cc in absurd no)
  takes_turn (step.Write sector body) old new result is takes = (let no : ⊥ = cc in absurd no)
  takes_turn (step.Trim sector) old new result is takes = (let no : ⊥ = cc in absurd no)
  takes_turn step.Flush old new result is takes = (let no : ⊥ = cc in absurd no)
  takes_turn step.Turn old new result is takes = takes

  -- of a turn that is done
  module _ (old new : Device N) (event : Event) (x : Exchange) (well : IsWell view.flash old) (is_honest : view.honest old.engine.nand ≡ true) (is : is_turn x.command ≡ true) (done : x.result ≡ Ok tt) (its : IsEventOf view old event x new) where
    takes : TakesTurn view old x.result new
    takes = takes_turn x.command old new x.result is its.tells.turned

    rescued : HasRescued (ram old.engine) (ram new.engine)
    rescued = subst (λ r. OnOk r (HasRescued (ram old.engine) (ram new.engine))) done (takes.rescued is_honest well)

    falls : HasNoneAiling (ram old.engine).blocks → HasFallen view old.engine new.engine
    falls none = subst (λ r. OnOk r (HasFallen view old.engine new.engine)) done (takes.falls is_honest well none)

    well_then : IsWell view.flash new
    well_then = its.tells.well is_honest well (not_bus x.result done)

    none_then : IsDevice view.flash old → FailsNowhere old.engine.geometry event.piece → HasNoneAiling (ram old.engine).blocks → HasNoneAiling (ram new.engine).blocks
    none_then device nowhere none =
        none_on (ram old.engine) (ram new.engine) its.happened.went.log device.engine.memory its.tells.device.engine.memory its.tells.sized its.happened.went.follows rescued
        (subst (λ l. FailsNowhere old.engine.geometry l) its.piece nowhere) none

    quiet_so : IsQuiet view.erases old.engine new.engine → (0 < programs_in event.piece) ⊎ HasRisen (view.erases old.engine.nand) (view.erases new.engine.nand)
        ⊎ (need_at new.engine.geometry new.engine.mapping.share + 3 ≤ good_by (ram new.engine) → 12 + flush_blocks_at new.engine.geometry new.engine.mapping.share ≤ free_by (ram new.engine) (image_in view.flash new.engine))
    quiet_so (inl (inl more)) = inl (omega (arith, more, its.happened.went.next, ap programs_in its.piece))
    quiet_so (inl (inr rose)) = inr (inl rose)
    quiet_so (inr enough) =
        let safe = its.tells.device.engine.memory in
        let good : good_count (ram new.engine).blocks.table ≡ good_by (ram new.engine) = good_now_law (ram new.engine) safe in
        let free : free_count (ram new.engine).blocks ≡ free_by (ram new.engine) (image_in view.flash new.engine) = free_now_law (ram new.engine) (image_in view.flash new.engine) safe well_then.truth in
        inr (inr (λ many. subst (λ n. 12 + flush_blocks_at new.engine.geometry new.engine.mapping.share ≤ n) free (enough (omega (arith, many, good)))))

    quiet : (0 < programs_in event.piece) ⊎ HasRisen (view.erases old.engine.nand) (view.erases new.engine.nand)
        ⊎ (need_at new.engine.geometry new.engine.mapping.share + 3 ≤ good_by (ram new.engine) → 12 + flush_blocks_at new.engine.geometry new.engine.mapping.share ≤ free_by (ram new.engine) (image_in view.flash new.engine))
    quiet = quiet_so (subst (λ r. OnOk r (IsQuiet view.erases old.engine new.engine)) done (takes.quiet is_honest well))

  -- with fewer left than there are turns, one of them rests
  row : (old new : Device N) (events : List Event) (xs : List Exchange) → IsDevice view.flash old → view.honest old.engine.nand ≡ true → IsWell view.flash old → HasNoneAiling (ram old.engine).blocks → left (ram old.engine) (image_in view.flash old.engine) < length xs
      → AreTurnsDone xs → FailNowhere old.engine.geometry events → (each : HappensEach view old events xs new) → OneRests view old events xs new each
  row old new [] [] device is_honest well none below turns nowhere each = omega (arith, below)
  row old new [] (x ∷ xs) device is_honest well none below turns nowhere each = each
  row old new (event ∷ events) [] device is_honest well none below turns nowhere each = each
  row old new (event ∷ events) (x ∷ xs) device is_honest well none below turns nowhere each =
      let its = each.1 in
      let on : left (ram each.0.engine) (image_in view.flash each.0.engine) < length xs → OneRests view each.0 events xs new each.2 = λ less.
      row each.0 new events xs its.tells.device (its.tells.honest_is ∙ is_honest) (well_then old each.0 event x well is_honest turns.0.0 turns.0.1 its) (none_then old each.0 event x well is_honest turns.0.0 turns.0.1 its device nowhere.0 none) less turns.1
      (subst (λ (g : Geometry). FailNowhere g events) (sym its.tells.sized) nowhere.1) each.2 in
      elim (falls old each.0 event x well is_honest turns.0.0 turns.0.1 its none) [
        | inl same ↦ inl same
        | inr (inl rose) ↦ inr (inl rose)
        | inr (inr less) ↦ inr (inr (on (omega (arith, less, below))))
      ]

  pub turns_in_a_row_law : TurnsInARowLaw view
  turns_in_a_row_law old new events xs device is_honest well writable none size turns nowhere each =
      row old new events xs device is_honest well none (omega (arith, left_below_law view.flash old device well writable, size)) turns nowhere each

  pub quiet_turn_law : QuietTurnLaw view
  quiet_turn_law old new event x is_honest well is done its = quiet old new event x well is_honest is done its

pub quiet_event_law : QuietEventLaw
quiet_event_law first old before event x fair is done none many =
    let g = first.geometry in
    omega (arith, fair.quiet is done none (omega (arith, many, joined_good g first.bad before)), joined_free g first.bad before event.left.flash.image)
