use Rattle.std.proofs.Common.{rules, inr, refl, sym, subst, ◌∙◌}
use Rattle.program_words.specs.Numbers.{SpellsNumbers}
use Rattle.disk_commands.proofs.BadLemmas.{AreReadFrom, none_read, none_spelled, one_more, pushed, shorter}
use Rattle.disk_commands.proofs.named_blocks.numbers_of.Goals as goal

pub loop-block-init : goal.loop-block-init
loop-block-init c = (search rules, subst (AreReadFrom c.args.word.now c.args.word.now) (sym c.new-blocks.ensures.items) (none_read c.args.word.now))

pub loop-block-smaller : goal.loop-block-smaller
loop-block-smaller c = shorter c.loop-block.rest.now c.in-Some.behind.now c.in-Some.block c.in-Some.ensures.some

pub loop-block-preserved : goal.loop-block-preserved
loop-block-preserved c =
    let items = pushed _ _ c.loop-block.blocks.items c.in-Some.block _ c.push.ensures.items c.is_err.ensures.negation c.if-is_err.false in (
      search rules,
      subst (AreReadFrom c.args.word.now c.in-Some.behind.now) (sym items)
          (one_more c.args.word.now c.loop-block.rest.now c.in-Some.behind.now c.in-Some.block c.loop-block.blocks.items c.loop-block.invariant.1 c.in-Some.ensures.some (λ k r starts. c.in-Some.ensures.all k r starts)),
    )

pub returns-in_default-number-clause-fault : goal.returns-in_default-number-clause-fault
returns-in_default-number-clause-fault c =
    inr (refl, none_spelled c.args.word.now c.loop-block.rest.now c.loop-block.blocks.items c.loop-block.invariant.1 (λ k r starts. c.in_default.ensures.all k r starts) (sym c.number.ensures ∙ c.in_default-number.is))

pub returns-in-Ok-clause-ok : goal.returns-in-Ok-clause-ok
returns-in-Ok-clause-ok c = subst (SpellsNumbers c.args.word.now) (sym c.in-Ok.ensures.items) (c.loop-block.invariant.1.forth _ (sym c.number.ensures ∙ c.in-Some-number.is))
