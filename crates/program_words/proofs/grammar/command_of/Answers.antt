use Rattle.std.proofs.Common.{arith}
use Rattle.program_words.proofs.GrammarLemmas.{one_word}
use Rattle.program_words.proofs.grammar.command_of.Goals as goal

pub loop-place-preserved : goal.loop-place-preserved
loop-place-preserved c = record {
  told = one_word _ _ c.args.rule.now.name.now c.args.rule.now.words.now c.loop-place.place _ _ _ (omega arith) (omega arith) c.word_of.ensures.rule c.loop-place.invariant.told c.in_ok-command.ensures.app;
  local = c.in_ok-command.ensures.local;
}
