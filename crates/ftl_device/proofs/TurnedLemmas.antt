-- What a turn has done once there was room.
use Rattle.std.proofs.Common.{◌≡◌, ◌⊎◌, inl, inr, Bool, true, false, Option, Some, None, MatchOption, Ok, refl, sym, ap, subst}
use Rattle.collection.specs.declared.engine.Pinned.{Pinned}
use Rattle.collection.specs.declared.engine.collect_in_turns.Step.{Step}
use Rattle.collection.specs.State.{Ram}
use Rattle.collection.specs.Collect.{HasAiling, HasNoneAiling, RescueCosts}
use Rattle.collection.specs.Left.{HasStepped, pinned_to}
use Rattle.collection.specs.declared.engine.room.Reserve.TheVariants as reserve
use Rattle.collection.specs.Room.{IsWorth, wanted}
use Rattle.ftl_device.specs.Turn.{IsBlockOf, HasGoneOn, HasNoneToCollect, TurnsOn}

block_of : (r : Ram) (o : Option Pinned) (p : Pinned) → r.pin.block ≡ o → MatchOption o (IsWorth (wanted reserve.Turn r) r p.block × (p.first ≡ 0)) (λ q. q ≡ p) → IsBlockOf r p
block_of r o p is h = (let P : Option Pinned → Type 0 = λ x. MatchOption x (IsWorth (wanted reserve.Turn r) r p.block × (p.first ≡ 0)) (λ q. q ≡ p) in subst P (sym is) h)

-- the pinned block
pub gone_pinned : (p : Pinned) (a b : Ram) (step : Step) → a.pin.block ≡ Some p → HasStepped false p a b step → HasGoneOn a b
gone_pinned p a b step is h =
    let e : a ≡ pinned_to (Some p) a = ap (λ o. pinned_to o a) is in
    let P : Ram → Type 0 = λ z. HasStepped false p z b step in
    record { block = p; step = step; which = block_of a (Some p) p is refl; stepped = subst P e h }

-- one that was pinned for it
pub gone_begun : (p : Pinned) (a m c : Ram) → m ≡ pinned_to (Some p) a → a.pin.block ≡ None → p.first ≡ 0 → IsWorth (wanted reserve.Turn a) a p.block → HasGoneOn m c → HasGoneOn a c
gone_begun p a m c pinned none zero worth h = by (let P : Ram → Type 0 = λ z. HasGoneOn z c in subst P pinned h)
  where
    by : HasGoneOn (pinned_to (Some p) a) c → HasGoneOn a c
    by g =
        let P : Pinned → Type 0 = λ q. IsWorth (wanted reserve.Turn a) a q.block × (q.first ≡ 0) in
        record { block = g.block; step = g.step; which = block_of a None g.block none (subst P g.which (worth, zero)); stepped = g.stepped }

pub rescue_turned : (a b : Ram) (found : Bool) → HasAiling a.blocks → RescueCosts a b (Ok found) → TurnsOn a b
rescue_turned a b true some cost = inr (inl (some, cost))
rescue_turned a b false some cost = inl (cost, inl some)

pub collect_turned : (a b : Ram) → HasNoneAiling a.blocks → ((b ≡ a) × HasNoneToCollect a) ⊎ HasGoneOn a b → TurnsOn a b
collect_turned a b none (inl still) = inl (still.0, inr still.1)
collect_turned a b none (inr on) = inr (inr (none, on))
