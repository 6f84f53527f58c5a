-- A call that makes room, and then has a page rescued, renewed or collected.
use Rattle.std.proofs.Common.{◌≡◌, ◌≢◌, ◌+◌, ◌<◌, ◌≤◌, true, length, None, Bool, Result, Ok, Err, refl}
use Rattle.page_layout.specs.View.{View}
use Rattle.mapping_cache.specs.Mapping.{HasLimitsOf}
use Rattle.collection.specs.declared.engine.Engine.{Engine}
use Rattle.collection.specs.declared.fault.EngineFault.{EngineFault}
use Rattle.collection.specs.declared.fault.EngineFault.TheVariants.{Bus}
use Rattle.collection.specs.Safe.{ram, image_in}
use Rattle.collection.specs.Truth.{IsTrue}
use Rattle.collection.specs.Left.{IsCalm, LeavesPin, PinIsFew}
use Rattle.collection.specs.Acts.{Stands}
use Rattle.collection.specs.Results.{Goes, IsSame, Refused}
use Rattle.collection.specs.Collect.{KeepsKeys, IsRearranged, RescueCosts, RoomRefused, waiting}
use Rattle.collection.specs.Stops.{CutsSafely, StopsSafely}
use Rattle.collection.proofs.Lefts.{calm_law}
use Rattle.ftl_device.specs.declared.fault.CallFault.TheVariants as call
use Rattle.ftl_device.specs.Calls.{Knows}
use Rattle.ftl_device.specs.Changes.{EngineLeaves, EndsKept}
use Rattle.ftl_device.proofs.FlushLoops.{engine_keeps, keeps_same}
use Rattle.ftl_device.proofs.FlushRuns.{Passes, stuck_then, kept_then}
use Rattle.ftl_device.proofs.LeaveLemmas.{leaves_by, leaves_refused, kept_stuck}
use Rattle.ftl_device.proofs.RoomLemmas.{keeps_room, refused_room, rescue_told}
use Rattle.ftl_device.proofs.StepLemmas.{moved_less, rescue_refused}

-- what a rescue answers that is refused
abbrev refused : EngineFault → Result Bool EngineFault
refused fault = Err fault

module _ {N : Type 0} (view : View N) (old mid : Engine N) where
  -- no room was made
  pub kept_unroomed : (fault : EngineFault) → EngineLeaves {A = Unit {0}} view old (Err fault) mid → HasLimitsOf old.mapping mid.mapping
      → (view.honest old.nand ≡ true → Knows (ram old) (image_in view.flash old) → RoomRefused (ram old) (image_in view.flash old) (ram mid) (image_in view.flash mid) fault)
      → (view.honest old.nand ≡ true → Knows (ram old) (image_in view.flash old) → fault ≢ Bus → PinIsFew 0 (ram mid))
      → EndsKept view old (Err (call.Engine fault)) mid
  kept_unroomed fault leaves limits truth few =
      kept_stuck view old mid fault leaves limits (λ is_honest k. refused_room (ram old) (ram mid) (image_in view.flash old) (image_in view.flash mid) fault (truth is_honest k) (few is_honest k))

  -- there is room
  pub passes_room : EngineLeaves {A = Unit {0}} view old (Ok tt) mid → HasLimitsOf old.mapping mid.mapping
      → (view.honest old.nand ≡ true → Knows (ram old) (image_in view.flash old) → IsRearranged (ram old) (image_in view.flash old) (ram mid) (image_in view.flash mid))
      → (view.honest old.nand ≡ true → Knows (ram old) (image_in view.flash old) → Knows (ram mid) (image_in view.flash mid)) → Passes view old mid
  passes_room leaves limits room known = record { leaves = leaves; limits = limits; keeps = λ is_honest k. keeps_room (ram old) (ram mid) (image_in view.flash old) (image_in view.flash mid) (room is_honest k) (known is_honest k) }

  -- the page that comes after: a rescue, or one that is renewed
  module _ (room : Passes view old mid) (new : Engine N) (goes : Goes (ram mid) (ram new)) (keys : KeepsKeys mid.mapping new.mapping) where
    leaves_rescue : (result : Result Bool EngineFault) → Stands view mid new result → (mid.fault ≡ None → RescueCosts (ram mid) (ram new) result)
        → (view.honest mid.nand ≡ true → mid.fault ≡ None → IsTrue None (ram mid) (image_in view.flash mid) → result ≢ Err Bus → StopsSafely view mid new)
        → (view.honest mid.nand ≡ true → mid.fault ≡ None → IsTrue None (ram mid) (image_in view.flash mid) → result ≡ Err Bus → CutsSafely view mid new)
        → EngineLeaves view mid result new
    leaves_rescue result stands cost stops cut = leaves_by view mid new result room.leaves.fault stands goes.geometry
        (rescue_told result (ram mid) (ram new) room.leaves.safe.memory stands.safe.memory goes (cost room.leaves.fault))
        (λ is_honest k ne. stops is_honest room.leaves.fault k.truth ne) (λ is_honest k bus. cut is_honest room.leaves.fault k.truth bus)

    pub kept_rescue_refused : (fault : EngineFault) → Stands view mid new (refused fault) → (mid.fault ≡ None → RescueCosts (ram mid) (ram new) (refused fault))
        → (view.honest mid.nand ≡ true → mid.fault ≡ None → IsTrue None (ram mid) (image_in view.flash mid) → refused fault ≢ refused Bus → StopsSafely view mid new)
        → (view.honest mid.nand ≡ true → mid.fault ≡ None → IsTrue None (ram mid) (image_in view.flash mid) → refused fault ≡ refused Bus → CutsSafely view mid new)
        → (ram new).pin ≡ (ram mid).pin → length new.mapping.moved ≤ length mid.mapping.moved + 1
        → (view.honest mid.nand ≡ true → mid.fault ≡ None → IsTrue None (ram mid) (image_in view.flash mid) → length mid.mapping.moved < waiting (ram mid) + mid.geometry.pages
        → Refused (ram mid) (image_in view.flash mid) (ram new) (image_in view.flash new) fault)
        → EndsKept view old (Err (call.Engine fault)) new
    kept_rescue_refused fault stands cost stops cut pin more truth = stuck_then view old mid new room fault
        (leaves_refused view Bool (Unit {0}) mid new fault (leaves_rescue (refused fault) stands cost stops cut)) keys.limits
        (λ is_honest k. rescue_refused (ram mid) (ram new) (image_in view.flash mid) (image_in view.flash new) room.leaves.safe.memory stands.safe.memory goes keys.limits.share pin more k fault
        (truth is_honest room.leaves.fault k.truth (moved_less (ram mid) (image_in view.flash mid) k)))

    pub kept_rescue : (found : Bool) → Stands view mid new (Ok found) → (mid.fault ≡ None → RescueCosts (ram mid) (ram new) (Ok found))
        → (view.honest mid.nand ≡ true → mid.fault ≡ None → IsTrue None (ram mid) (image_in view.flash mid) → Ok found ≢ Err Bus → StopsSafely view mid new)
        → LeavesPin (ram mid) (ram new) → IsCalm (ram mid)
        → (view.honest mid.nand ≡ true → mid.fault ≡ None → IsTrue None (ram mid) (image_in view.flash mid) → length mid.mapping.moved < waiting (ram mid) + mid.geometry.pages
        → IsSame (ram mid) (image_in view.flash mid) (ram new) (image_in view.flash new))
        → EndsKept view old (Ok tt) new
    kept_rescue found stands cost stops beside calm same = kept_then view old mid new room found
        (leaves_rescue (Ok found) stands cost stops (λ is_honest none k bus. (let no : ⊥ = cc in absurd no))) keys.limits (λ none. calm_law (ram mid) (ram new) beside calm)
        (λ is_honest k. engine_keeps mid.geometry (ram mid) (ram new) (image_in view.flash mid) (image_in view.flash mid) (image_in view.flash new) refl room.leaves.safe.memory stands.safe.memory beside (keeps_same (ram mid) (image_in view.flash mid) k)
        (same is_honest room.leaves.fault k.truth (moved_less (ram mid) (image_in view.flash mid) k)))
