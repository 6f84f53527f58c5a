use Rattle.std.proofs.Common.{◌≤◌, below_more, arith, inl, inr, refl}
use Rattle.std.specs.Int.{div_ceil}
use Rattle.disk_commands.specs.Shapes.{HasNoDie}
use Rattle.disk_commands.proofs.shapes.share_for.Goals as goal

pub returns-in-Ok : goal.returns-in-Ok
returns-in-Ok c = inl (record {
  least = omega (arith, c.loop-share.auto.share);
  most = omega (arith, c.loop-share-test.true);
  room = (c.in-Ok.field-0.geometry, c.in-Ok.ensures.ok.die);
  lower = c.loop-share.invariant;
})

pub loop-share-preserved : goal.loop-share-preserved
loop-share-preserved c =
    let none : HasNoDie c.loop-share.share (div_ceil c.args.bytes 4096) = c.in_default.ensures.none in
    λ share least less. below_more (λ n. 15 ≤ n → HasNoDie n (div_ceil c.args.bytes 4096)) c.loop-share.share (λ n below from. c.loop-share.invariant n from below) (λ _. none) share less least

pub returns : goal.returns
returns c = inr ((λ share least less. c.loop-share.invariant share least (omega (arith, less, c.loop-share-test.false))), refl)
