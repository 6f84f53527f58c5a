-- WHAT TURNS IN A ROW COME TO.
use Rattle.std.specs.Prelude.{◌≡◌, ◌⊎◌, ℕ, ◌+◌, ◌<◌, ◌≤◌, true, false, List, [], ◌∷◌, length, Ok}
use Rattle.std.specs.List.{AllByRecursion}
use Rattle.page_layout.specs.View.{View}
use Rattle.page_layout.specs.declared.geometry.Geometry.{Geometry}
use Rattle.page_layout.specs.Counter.{HasRisen}
use Rattle.page_layout.specs.Flash.{Operation}
use Rattle.page_layout.specs.Geometry.{need_at, flush_blocks_at}
use Rattle.promises.specs.Log.{programs_in, good_count_after, free_count_after}
use Rattle.promises.specs.Run as runs
use Rattle.promises.specs.Run.{Event}
use Rattle.collection.specs.Safe.{ram, image_in}
use Rattle.collection.specs.Collect.{HasNoneAiling}
use Rattle.ftl_device.specs.declared.device.Device.{Device}
use Rattle.ftl_device.specs.Device.{IsDevice}
use Rattle.ftl_device.specs.Calls.{IsWell}
use Rattle.ftl_device.specs.Counts.{free_by, good_by}
use Rattle.ftl_device.specs.Flush.{First}
use Rattle.command_queue.specs.Commands.{is_turn}
use Rattle.command_queue.specs.Exchanges.{Exchange}
use Rattle.command_queue.specs.Rescues.{FailsNowhere}
use Rattle.command_queue.specs.Run.{IsFair, IsEventOf, HappensEach}

-- each is a turn that is done
abbrev pub AreTurnsDone : List Exchange → Type 0
AreTurnsDone xs = AllByRecursion (λ (x : Exchange). (is_turn x.command ≡ true) × (x.result ≡ Ok tt)) xs

-- in none of them an operation failed
abbrev pub FailNowhere : Geometry → List Event → Type 0
FailNowhere g events = AllByRecursion (λ (e : Event). FailsNowhere g e.piece) events

-- of these calls one erased a block, or found nothing to do
abbrev pub OneRests : {N : Type 0} → (view : View N)
    → (old : Device N) → (events : List Event) → (xs : List Exchange) → (new : Device N)
    → HappensEach view old events xs new → Type 0
OneRests view old [] [] new each = ⊥
OneRests view old [] (x ∷ xs) new each = ⊥
OneRests view old (event ∷ events) [] new each = ⊥
OneRests view old (event ∷ events) (x ∷ xs) new each =
    (each.0.engine ≡ old.engine) ⊎ HasRisen (view.erases old.engine.nand) (view.erases each.0.engine.nand) ⊎ OneRests view each.0 events xs new each.2

-- ---- laws

-- AMONG AS MANY TURNS IN A ROW as a block has pages, each done and none with a failure, begun while no bad block held a newest page, one erases a
-- block or finds nothing to do
abbrev pub TurnsInARowLaw : {N : Type 0} → (view : View N) → Type 0
TurnsInARowLaw {N} view = (old new : Device N) (events : List Event) (xs : List Exchange) → IsDevice view.flash old
    → view.honest old.engine.nand ≡ true → IsWell view.flash old → old.read_only ≡ false → HasNoneAiling (ram old.engine).blocks
    → length xs ≡ old.engine.geometry.pages → AreTurnsDone xs → FailNowhere old.engine.geometry events
    → (each : HappensEach view old events xs new) → OneRests view old events xs new each

-- A TURN THAT IS DONE AND QUIET, that programs nothing and of which the die counts no erase, leaves twelve free blocks by the image, and those of a flush, where three more are good
-- than the geometry asks for
abbrev pub QuietTurnLaw : {N : Type 0} → (view : View N) → Type 0
QuietTurnLaw {N} view = (old new : Device N) (event : Event) (x : Exchange) → view.honest old.engine.nand ≡ true
    → IsWell view.flash old → is_turn x.command ≡ true → x.result ≡ Ok tt → IsEventOf view old event x new
    → (0 < programs_in event.piece) ⊎ HasRisen (view.erases old.engine.nand) (view.erases new.engine.nand)
    ⊎ (need_at new.engine.geometry new.engine.mapping.share + 3 ≤ good_by (ram new.engine) → 12 + flush_blocks_at new.engine.geometry new.engine.mapping.share ≤ free_by (ram new.engine) (image_in view.flash new.engine))

-- A TURN OF A RUN THAT IS DONE AND PROGRAMS AND ERASES NOTHING leaves twelve free blocks, and those of a flush, by the image and the log up to it, where three more are good by
-- that log than the geometry asks for
abbrev pub QuietEventLaw : Type 0
QuietEventLaw = (first : First) (old : runs.DeviceView) (before : List Operation) (event : Event) (x : Exchange) → IsFair first old before event x
    → is_turn x.command ≡ true → x.result ≡ Ok tt → event.piece ≡ []
    → need_at first.geometry first.share + 3 ≤ good_count_after first.geometry first.bad before → 12 + flush_blocks_at first.geometry first.share ≤ free_count_after first.geometry first.bad before event.left.flash.image
