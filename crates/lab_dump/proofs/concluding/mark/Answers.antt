use Rattle.std.proofs.Common.{arith, refl}
use Rattle.lab_dump.proofs.ConcludeLemmas.{mark_none, mark_set}
use Rattle.lab_dump.proofs.concluding.mark.Goals as goal

pub returns-in_default : goal.returns-in_default
returns-in_default c = record {
  each = λ b l. rw c.in_default.is (mark_none c.args.pages b c.args.kept.now);
  size = refl;
}

pub returns-clause-each : goal.returns-clause-each
returns-clause-each c = λ b l. rw c.in-Some.is (mark_set c.args.pages c.in-Some.row _ b c.args.kept.now refl (omega arith))
