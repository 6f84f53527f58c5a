use Rattle.std.proofs.Common.{◌<◌, ◌∙◌, length, sym, subst, arith}
use Rattle.image_check.specs.Agrees.{Agrees}
use Rattle.file_die.specs.Store.{Held}
use Rattle.crash_recovery.specs.Torn.{FindsCut}
use Rattle.crash_recovery.proofs.Kept.{looked_again, looks_failed, looks_then}
use Rattle.crash_recovery.proofs.LookLemmas.{cuts_all, cuts_more}
use Rattle.crash_recovery.proofs.look.find_cuts.Goals as goal

pub cut_of-requires-clause-look : goal.cut_of-requires-clause-look
cut_of-requires-clause-look g c = looked_again _ _ _ _ _ _ _ _ c.requires.look c.loop-block.invariant.looks c.loop-block.auto.page

pub returns-in_err-cuts-clause-looks : goal.returns-in_err-cuts-clause-looks
returns-in_err-cuts-clause-looks g c = looks_failed _ _ _ _ _ c.from_residual.result c.from_residual.ensures.0 (looks_then _ _ _ _ _ _ _ c.loop-block.invariant.looks c.in_err-cuts.ensures.looks)

pub loop-block-preserved : goal.loop-block-preserved
loop-block-preserved g c =
    let loop = c.loop-block.invariant in
    let k = c.loop-block.block in
    let within : k < length c.loop-block.cuts = omega (arith, c.loop-block.auto.cuts, c.requires.blocks, c.loop-block-test.true, c.blocks-block-end.ensures) in
    record {
      looks = looks_then _ _ _ _ _ _ _ loop.looks c.in_ok-cuts.ensures.looks;
      finds = λ h capacity agrees. cuts_more c.args.geometry.now _ c.args.mark k c.in_ok-cuts.field-0 c.loop-block.cuts within (loop.finds h capacity agrees)
          (subst (λ (s : Held). FindsCut c.args.geometry.now s.pages c.args.mark k c.in_ok-cuts.field-0) (loop.looks.same h)
          (c.in_ok-cuts.ensures.finds (loop.looks.keeps.as_honest ∙ h) capacity (subst (λ (s : Held). Agrees c.args.geometry.now capacity s.pages c.args.certificate.now) (sym (loop.looks.same h)) agrees)));
    }

pub returns-clause-finds : goal.returns-clause-finds
returns-clause-finds g c h capacity agrees = cuts_all c.args.geometry.now _ c.args.mark c.loop-block.block _ (omega (arith, c.loop-block-test.false, c.blocks-block-end.ensures)) (c.loop-block.invariant.finds h capacity agrees)

pub returns-clause-looks : goal.returns-clause-looks
returns-clause-looks g c = c.loop-block.invariant.looks
