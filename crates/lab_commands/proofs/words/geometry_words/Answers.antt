use Rattle.std.specs.Borrow.{Bor}
use Rattle.clap.specs.Walk.{Text}
use Rattle.program_words.proofs.WordLemmas.{entry_of, lacks}
use Rattle.lab_commands.proofs.words.geometry_words.Goals as goal

pub returns-in_err-word-clause-none : goal.returns-in_err-word-clause-none
returns-in_err-word-clause-none c = λ none read is. lacks (λ (w : Bor Text). w.now) _ _ _ c.word.ensures c.in_err-word.was is.dump_is

pub returns-clause-some : goal.returns-clause-some
returns-clause-some c = record { dump_is = entry_of (λ (w : Bor Text). w.now) _ _ _ c.word.ensures c.in_ok-word.was; showing = c.showing_words.ensures }
