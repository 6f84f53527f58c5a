use Rattle.std.proofs.Common.{rules, sym}
use Rattle.std.specs.Borrow.{Bor}
use Rattle.clap.specs.Walk.{Text}
use Rattle.program_words.proofs.WordLemmas.{entry_of, lacks}
use Rattle.disk_commands.proofs.words.create_words.Goals as goal

pub returns-in_err-word-clause-none : goal.returns-in_err-word-clause-none
returns-in_err-word-clause-none c = λ none read is. lacks (λ (w : Bor Text). w.now) _ _ _ c.word.ensures c.in_err-word.was is.disk_is

pub returns-clause-some : goal.returns-clause-some
returns-clause-some c = record {
  disk_is = entry_of (λ (w : Bor Text). w.now) _ _ _ c.word.ensures c.in_ok-word.was;
  make_is = c.in_ok-make_words.ensures.some;
  bad_is = sym c.word-2.ensures;
  cache_is = sym c.word-3.ensures;
  share_is = sym c.word-4.ensures;
  code_is = search rules;
}
