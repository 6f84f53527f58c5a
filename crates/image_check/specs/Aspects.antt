-- Two states of a block, compared in what one part of the agreement is about.
use Rattle.std.specs.Prelude.{◌≡◌, ◌↔◌, ℕ, ◌<◌, List, slice_get, Some}
use Rattle.certificate.specs.declared.block_state.BlockState.{BlockState}
use Rattle.image_check.specs.declared.blocks.Aspect.{Aspect}
use Rattle.image_check.specs.declared.blocks.Aspect.TheVariants as aspect
use Rattle.image_check.specs.declared.refusal.Refusal.{Refusal}
use Rattle.image_check.specs.declared.refusal.Refusal.TheVariants as refusals
use Rattle.image_check.specs.Refused.{Part, BadSet, States, Live, Wear}

-- the two classes are the same as far as they are bad ones
abbrev pub IsSameBad : ℕ → ℕ → Type 0
IsSameBad a b = ((a ≡ 4) ↔ (b ≡ 4)) × ((a ≡ 5) ↔ (b ≡ 5))

abbrev pub IsSameInAspect : Aspect → BlockState → BlockState → Type 0
IsSameInAspect aspect.BadSet s t = IsSameBad s.class t.class
IsSameInAspect aspect.State s t = (s.class ≡ t.class) × (s.pointer ≡ t.pointer)
IsSameInAspect aspect.Live s t = s.live ≡ t.live
IsSameInAspect aspect.Wear s t = s.wear ≡ t.wear

-- the part of the agreement that compares this
abbrev pub part_for : Aspect → Part
part_for aspect.BadSet = BadSet
part_for aspect.State = States
part_for aspect.Live = Live
part_for aspect.Wear = Wear

abbrev pub refusal_for : Aspect → ℕ → Refusal
refusal_for aspect.BadSet block = refusals.BadSetWrong block
refusal_for aspect.State block = refusals.BlockState block
refusal_for aspect.Live block = refusals.LiveWrong block
refusal_for aspect.Wear block = refusals.WearWrong block

-- the first n states are the same as these
pub record AreSame (n : ℕ) (compared : Aspect) (claims reals : List BlockState) : Type 0 where
  pub each : (b : ℕ) (s t : BlockState) → b < n → slice_get claims b ≡ Some s → slice_get reals b ≡ Some t → IsSameInAspect compared s t
