use Rattle.std.proofs.Common.{◌≡◌, refl, sym, ◌∙◌, true, false}
use Rattle.image_check.proofs.SequenceLemmas.{next_moved, next_needed}
use Rattle.image_check.proofs.parts.check_next.Goals as goal

pub returns-then-are_below-clause-ok : goal.returns-then-are_below-clause-ok
returns-then-are_below-clause-ok c = λ g image h. rw (← c.next_sequence.ensures) (next_moved g image c.args.pairs.now c.next_sequence.result h (c.are_below.ensures.0 c.if-are_below.true))

pub returns-else-are_below-clause-err : goal.returns-else-are_below-clause-err
returns-else-are_below-clause-err c = λ g capacity image h. record {
  part_is = refl;
  fails = λ below. (let t = c.are_below.ensures.1 (next_needed g image c.args.pairs.now c.next_sequence.result h (rw c.next_sequence.ensures below)) in (let clash : true ≡ false = sym t ∙ c.if-are_below.false in cc));
  says = tt;
}
