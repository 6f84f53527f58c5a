use Rattle.std.proofs.Common.{arith, sym, ◌∙◌}
use Rattle.std.proofs.lemmas.Bool.Decides.{nat_tests}
use Rattle.command_words.specs.Words.{texts}
use Rattle.command_words.proofs.WordLemmas.{are_orders, no_order, no_order_empty, no_order_option}
use Rattle.command_words.proofs.words.parse.Goals as goal
use Rattle.command_words.proofs.words.parse.Goals.{then-is_empty-via-then-is_empty, then-is_empty-via-else-is_empty+then-has_option}

pub returns-clause-ok : goal.returns-clause-ok
returns-clause-ok c = are_orders c.args.words.now c.read_order.result (grind arith) (sym c.has_option.ensures ∙ c.if-has_option.false) c.read_order.ensures.ok

pub returns-clause-none : goal.returns-clause-none
returns-clause-none c refused order is = no_order (texts c.args.words.now) order (c.read_order.ensures.none refused) is

pub returns-then-is_empty-clause-none : goal.returns-then-is_empty-clause-none
returns-then-is_empty-clause-none c refused order is =
    elim c.then-is_empty.branch [
      | then-is_empty-via-then-is_empty w ↦ no_order_empty c.args.words.now order is (grind (arith, nat_tests))
      | then-is_empty-via-else-is_empty+then-has_option w ↦ no_order_option c.args.words.now order is (sym w.has_option.ensures ∙ w.if-has_option.true)
    ]
