use Rattle.std.proofs.Common.{◌≡◌, ◌∙◌, inl, inr, Bool, Option, None, Some, true, false, refl, ap, sym}
use Rattle.std.specs.Prelude.{is_some}
use Rattle.collection.specs.declared.engine.Pinned.{Pinned}
use Rattle.collection.specs.Safe.{ram}
use Rattle.collection.proofs.HalfDone.{unpinned_idle}
use Rattle.ftl_device.proofs.StepLemmas.{ok_map, pinned_half, knows_pinned, less_pinned, worked_pinned, collects_none, collects_pinned}
use Rattle.ftl_device.proofs.TurnedLemmas.{gone_begun}
use Rattle.ftl_device.proofs.AnswerLemmas.{less_not, turn_enough}
use Rattle.ftl_device.proofs.turn.collect_on.Goals as goal

not_pinned : (o : Option Pinned) (b : Bool) → b ≡ is_some o → b ≡ true → o ≡ None → ⊥
not_pinned None b is on none = (let no : ⊥ = cc in no)
not_pinned (Some p) b is on none = (let no : ⊥ = cc in no)

none_pinned : (o : Option Pinned) (b : Bool) → b ≡ is_some o → b ≡ false → o ≡ None
none_pinned None b is off = refl
none_pinned (Some p) b is off = (let no : ⊥ = cc in absurd no)

-- ---- none begins

pub returns-in_default-clause-collects : goal.returns-in_default-clause-collects
returns-in_default-clause-collects g c = collects_none g.N.PageSource.view c.args.engine.now c.requires.safe c.requires.going c.requires.calm

pub returns-in_default-clause-gone_on : goal.returns-in_default-clause-gone_on
returns-in_default-clause-gone_on g c = inl (
  refl,
  record {
    unpinned = none_pinned c.args.engine.now.pinned c.is_some.result c.is_some.ensures c.if-is_some.false;
    made = c.in_default.ensures;
  },
)

-- ---- one goes on

pub returns-then-is_some-clause-gone_on : goal.returns-then-is_some-clause-gone_on
returns-then-is_some-clause-gone_on g c = ok_map c.step_pinned.result (λ h. inr h) c.step_pinned.ensures.gone_on

-- ---- one begins

pub returns-clause-gone_on : goal.returns-clause-gone_on
returns-clause-gone_on g c =
    let none = none_pinned c.args.engine.now.pinned c.is_some.result c.is_some.ensures c.if-is_some.false in
    ok_map c.step_pinned-2.result (λ h. inr (gone_begun _ (ram c.args.engine.now) (ram c.pin.new.self) (ram c.step_pinned-2.new.engine) (ap (λ z. ram z) c.pin.ensures.pinned) none refl c.in-Some.ensures h)) c.step_pinned-2.ensures.gone_on

pub returns-clause-collects : goal.returns-clause-collects
returns-clause-collects g c =
    let none = none_pinned c.args.engine.now.pinned c.is_some.result c.is_some.ensures c.if-is_some.false in
    let idle = unpinned_idle (ram c.args.engine.now) c.requires.calm none in
    collects_pinned g.N.PageSource.view c.args.engine.now c.pin.new.self c.in-Some.block c.pin.ensures.pinned c.step_pinned-2.new.engine c.step_pinned-2.result
    c.requires.safe c.pin.ensures.safe c.requires.going
    (knows_pinned g.N.PageSource.view c.args.engine.now c.pin.new.self c.in-Some.block c.pin.ensures.pinned _ c.requires.safe.memory (c.pin.ensures.calm idle) (c.pin.ensures.passed _) c.in-Some.ensures idle.moved)
    c.step_pinned-2.ensures.collects

pub returns-clause-rests : goal.returns-clause-rests
returns-clause-rests g c = λ none twelve. absurd (less_not _ _ c.in-Some.ensures.scarce twelve)

pub returns-clause-quiet : goal.returns-clause-quiet
returns-clause-quiet g c = λ honest k. ok_map c.step_pinned-2.result (λ w. inl (worked_pinned g.N.PageSource.view c.args.engine.now c.pin.new.self c.in-Some.block c.pin.ensures.pinned c.step_pinned-2.new.engine w)) c.step_pinned-2.ensures.worked

pub returns-clause-falls : goal.returns-clause-falls
returns-clause-falls g c = λ honest k.
    let none = none_pinned c.args.engine.now.pinned c.is_some.result c.is_some.ensures c.if-is_some.false in
    let idle = unpinned_idle (ram c.args.engine.now) c.requires.calm none in
    let calm = c.pin.ensures.calm idle in
    let known = knows_pinned g.N.PageSource.view c.args.engine.now c.pin.new.self c.in-Some.block c.pin.ensures.pinned _ c.requires.safe.memory calm (c.pin.ensures.passed _) c.in-Some.ensures idle.moved k in
    ok_map c.step_pinned-2.result
    (λ h. inr
    (less_pinned g.N.PageSource.view c.args.engine.now c.pin.new.self c.in-Some.block c.pin.ensures.pinned
    c.step_pinned-2.new.engine none c.pin.ensures.safe.memory
    (pinned_half (ram c.pin.new.self) _ calm (ap (λ z. z.pinned) c.pin.ensures.pinned)) known h))
    (c.step_pinned-2.ensures.less (ap (λ z. g.N.PageSource.view.honest z.nand) c.pin.ensures.pinned ∙ honest) known)

-- ---- nothing is to be done

pub returns-in_default-clause-rests : goal.returns-in_default-clause-rests
returns-in_default-clause-rests g c = λ none twelve. (refl, refl)

pub returns-in_default-clause-falls : goal.returns-in_default-clause-falls
returns-in_default-clause-falls g c = λ honest k. inl refl

-- ---- it goes on by a step

pub returns-then-is_some-clause-collects : goal.returns-then-is_some-clause-collects
returns-then-is_some-clause-collects g c = c.step_pinned.ensures.collects

pub returns-then-is_some-clause-rests : goal.returns-then-is_some-clause-rests
returns-then-is_some-clause-rests g c = λ none. absurd (not_pinned c.args.engine.now.pinned c.is_some.result c.is_some.ensures c.if-is_some.true none)

pub returns-then-is_some-clause-quiet : goal.returns-then-is_some-clause-quiet
returns-then-is_some-clause-quiet g c = λ honest k. ok_map c.step_pinned.result (λ w. inl w) c.step_pinned.ensures.worked

pub returns-then-is_some-clause-falls : goal.returns-then-is_some-clause-falls
returns-then-is_some-clause-falls g c = λ honest k. ok_map c.step_pinned.result (λ h. inr h) (c.step_pinned.ensures.less honest k)

pub returns-in_default-clause-quiet : goal.returns-in_default-clause-quiet
returns-in_default-clause-quiet g c = λ honest k. inr (λ good. c.in_default.ensures.enough _ k.truth.live (turn_enough _ _ _ good))

-- ---- what the calls want

pub step_pinned-requires-clause-safe : goal.step_pinned-requires-clause-safe
step_pinned-requires-clause-safe g c = c.requires.safe

pub step_pinned-requires-clause-going : goal.step_pinned-requires-clause-going
step_pinned-requires-clause-going g c = c.requires.going

pub step_pinned-requires-clause-calm : goal.step_pinned-requires-clause-calm
step_pinned-requires-clause-calm g c = c.requires.calm

pub step_pinned-requires-clause-pinned : goal.step_pinned-requires-clause-pinned
step_pinned-requires-clause-pinned g c = sym c.is_some.ensures ∙ c.if-is_some.true

pub step_pinned-requires-2-clause-safe : goal.step_pinned-requires-2-clause-safe
step_pinned-requires-2-clause-safe g c = c.pin.ensures.safe

pub step_pinned-requires-2-clause-going : goal.step_pinned-requires-2-clause-going
step_pinned-requires-2-clause-going g c = ap (λ z. z.fault) c.pin.ensures.pinned ∙ c.requires.going

pub step_pinned-requires-2-clause-calm : goal.step_pinned-requires-2-clause-calm
step_pinned-requires-2-clause-calm g c = c.pin.ensures.calm (unpinned_idle (ram c.args.engine.now) c.requires.calm (none_pinned c.args.engine.now.pinned c.is_some.result c.is_some.ensures c.if-is_some.false))

pub step_pinned-requires-2-clause-pinned : goal.step_pinned-requires-2-clause-pinned
step_pinned-requires-2-clause-pinned g c = ap (λ z. is_some z.pinned) c.pin.ensures.pinned

pub pin-requires-clause-safe : goal.pin-requires-clause-safe
pin-requires-clause-safe g c = c.requires.safe

pub pin-requires-clause-unpinned : goal.pin-requires-clause-unpinned
pin-requires-clause-unpinned g c = (none_pinned c.args.engine.now.pinned c.is_some.result c.is_some.ensures c.if-is_some.false)
