use Rattle.std.proofs.Common.{◌<◌, ◌∙◌, length, sym, subst, arith}
use Rattle.image_check.specs.Agrees.{Agrees}
use Rattle.file_die.specs.Store.{Held}
use Rattle.crash_recovery.specs.Torn.{IsTorn}
use Rattle.crash_recovery.proofs.Kept.{looked_again, looks_failed, looks_none, looks_then}
use Rattle.crash_recovery.proofs.LookLemmas.{dead_all, dead_spared, dead_start, dead_torn}
use Rattle.crash_recovery.proofs.dead.find_dead.Goals as goal

pub loop-block-init : goal.loop-block-init
loop-block-init g c = record { looks = looks_none _ _ _ _; finds = λ h capacity agrees. dead_start c.args.geometry.now _ _ }

pub loop-block-preserved-then-block-ne0 : goal.loop-block-preserved-then-block-ne0
loop-block-preserved-then-block-ne0 g c =
    let loop = c.loop-block.invariant in
    let within : c.loop-block.block < length c.loop-block.dead = omega (arith, c.loop-block.auto.dead, c.requires.blocks, c.loop-block-test.true, c.blocks-block-end.ensures) in
    record {
      looks = loop.looks;
      finds = λ h capacity agrees. dead_spared c.args.geometry.now capacity _ c.args.certificate.now c.loop-block.block c.block.result c.loop-block.dead within
          (omega (arith, c.loop-block-test.true, c.blocks-block-end.ensures)) agrees c.block.ensures.is c.if-block-ne0.true (loop.finds h capacity agrees);
    }

pub is_torn-requires-clause-look : goal.is_torn-requires-clause-look
is_torn-requires-clause-look g c = looked_again _ _ _ _ _ _ _ _ c.requires.look c.loop-block.invariant.looks c.loop-block.auto.page

pub returns-in_err-dead-clause-looks : goal.returns-in_err-dead-clause-looks
returns-in_err-dead-clause-looks g c = looks_failed _ _ _ _ _ c.from_residual.result c.from_residual.ensures.0 (looks_then _ _ _ _ _ _ _ c.loop-block.invariant.looks c.in_err-dead.ensures.looks)

pub loop-block-preserved : goal.loop-block-preserved
loop-block-preserved g c =
    let loop = c.loop-block.invariant in
    let k = c.loop-block.block in
    let within : k < length c.loop-block.dead = omega (arith, c.loop-block.auto.dead, c.requires.blocks, c.loop-block-test.true, c.blocks-block-end.ensures) in
    record {
      looks = looks_then _ _ _ _ _ _ _ loop.looks c.in_ok-dead.ensures.looks;
      finds = λ h capacity agrees.
          let here : Agrees c.args.geometry.now capacity (g.S.Store.held c.loop-block.store).pages c.args.certificate.now = subst (λ (s : Held). Agrees c.args.geometry.now capacity s.pages c.args.certificate.now) (sym (loop.looks.same h)) agrees in
          dead_torn c.args.geometry.now capacity _ c.args.certificate.now k c.block.result c.in_ok-dead.field-0 c.loop-block.dead within
          (omega (arith, c.loop-block-test.true, c.blocks-block-end.ensures)) agrees c.block.ensures.is c.if-block-ne0.false
          (λ so. subst (λ (s : Held). IsTorn c.args.geometry.now s.pages k) (loop.looks.same h) (c.in_ok-dead.ensures.torn (loop.looks.keeps.as_honest ∙ h) capacity here so))
          (λ isnt. subst (λ (s : Held). ¬ IsTorn c.args.geometry.now s.pages k) (loop.looks.same h) (c.in_ok-dead.ensures.fine (loop.looks.keeps.as_honest ∙ h) capacity here isnt))
          (loop.finds h capacity agrees);
    }

pub returns-clause-looks : goal.returns-clause-looks
returns-clause-looks g c = c.loop-block.invariant.looks

pub returns-clause-finds : goal.returns-clause-finds
returns-clause-finds g c h capacity agrees = dead_all c.args.geometry.now _ c.loop-block.block _ (omega (arith, c.loop-block-test.false, c.blocks-block-end.ensures)) (c.loop-block.invariant.finds h capacity agrees)
