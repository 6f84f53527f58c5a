use Rattle.std.proofs.Common.{inl, inr, sym, ◌∙◌, arith}
use Rattle.disk_commands.proofs.BadLemmas.{all_right, first_wrong, found_again, none_before, one_right}
use Rattle.disk_commands.proofs.named_blocks.misnamed.Goals.{then-block-blocks-via-then-block-blocks, then-block-blocks-via-else-block-blocks+then-contains}
use Rattle.disk_commands.proofs.named_blocks.misnamed.Goals as goal

pub loop-at-init : goal.loop-at-init
loop-at-init c = none_before c.args.geometry.now c.args.blocks.now

pub returns-then-block-blocks-clause-some : goal.returns-then-block-blocks-clause-some
returns-then-block-blocks-clause-some c =
    first_wrong c.args.geometry.now c.args.blocks.now c.loop-at.at c.loop-at-test.true c.loop-at.invariant (elim c.then-block-blocks.branch [
      | then-block-blocks-via-then-block-blocks w ↦ inl (omega (arith, c.blocks-in-loop-at.ensures, w.if-block-blocks.true))
      | then-block-blocks-via-else-block-blocks+then-contains w ↦ inr (found_again _ _ (sym w.contains.ensures.value ∙ w.if-contains.true))
    ])

pub loop-at-preserved : goal.loop-at-preserved
loop-at-preserved c =
    one_right c.args.geometry.now c.args.blocks.now c.loop-at.at c.loop-at-test.true c.loop-at.invariant (omega (arith, c.blocks-in-loop-at.ensures, c.if-block-blocks.false))
    (λ k d least within. c.if-contains.ensures.cases k d least within)

pub returns-clause-none : goal.returns-clause-none
returns-clause-none c = λ none. all_right c.args.geometry.now c.args.blocks.now c.loop-at.at (omega (arith, c.loop-at-test.false)) c.loop-at.invariant
