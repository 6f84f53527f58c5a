use Rattle.std.proofs.Common.{arith}
use Rattle.program_words.proofs.GrammarLemmas.{one_command}
use Rattle.program_words.proofs.grammar.program_of.Goals as goal

pub loop-place-preserved : goal.loop-place-preserved
loop-place-preserved c =
    one_command _ _ _ c.args.grammar.now.name.now c.args.grammar.now.commands.now c.loop-place.place _ _ (omega arith) (omega arith) c.in_ok-command_of.ensures.app c.loop-place.invariant c.in_ok-whole.ensures
