use Rattle.std.proofs.Common.{◌≡◌, true, false, arith, sym, ◌∙◌}
use Rattle.std.proofs.lemmas.Option.{slice_get-get_or}
use Rattle.image_check.proofs.BlockLemmas.{same_more, blocks_hold, block_wrong}
use Rattle.image_check.proofs.blocks.check_blocks.Goals as goal

pub returns-then-not-is_same-clause-err : goal.returns-then-not-is_same-clause-err
returns-then-not-is_same-clause-err c = λ g capacity image states.
    rw c.refusal.ensures (
    block_wrong g capacity image c.args.certificate.now c.loop-block.block c.args.aspect c.args.states.now c.block-claimed.result _ c.loop-block.invariant (omega arith) c.requires.sized c.block-claimed.ensures.is
    (slice_get-get_or c.args.states.now c.loop-block.block _ (omega arith)) (λ same. (let t = c.is_same.ensures.1 same in let clash : true ≡ false = sym t ∙ c.if-not-is_same.true in cc)) states)

pub loop-block-preserved : goal.loop-block-preserved
loop-block-preserved c =
    same_more c.loop-block.block c.args.aspect c.args.certificate.now.blocks c.args.states.now c.block-claimed.result _ c.loop-block.invariant c.block-claimed.ensures.is
    (slice_get-get_or c.args.states.now c.loop-block.block _ (omega arith)) (c.is_same.ensures.0 c.if-not-is_same.false)

pub returns-clause-ok : goal.returns-clause-ok
returns-clause-ok c = λ g capacity image states. blocks_hold g capacity image c.args.certificate.now c.loop-block.block c.args.aspect c.args.states.now c.loop-block.invariant (omega arith) c.requires.sized states
