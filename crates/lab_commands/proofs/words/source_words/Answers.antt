use Rattle.std.specs.Borrow.{Bor}
use Rattle.clap.specs.Walk.{Text}
use Rattle.program_words.proofs.WordLemmas.{entry_of, lacks}
use Rattle.lab_commands.proofs.words.source_words.Goals as goal

pub returns-in_err-word-clause-none : goal.returns-in_err-word-clause-none
returns-in_err-word-clause-none c = λ none read is. lacks (λ (w : Bor Text). w.now) _ _ _ c.word.ensures c.in_err-word.was is.geometry_is

pub returns-in_err-word-2-clause-none : goal.returns-in_err-word-2-clause-none
returns-in_err-word-2-clause-none c = λ none read is. lacks (λ (w : Bor Text). w.now) _ _ _ c.word-2.ensures c.in_err-word-2.was is.dump_is

pub returns-clause-some : goal.returns-clause-some
returns-clause-some c =
    record {
      geometry_is = entry_of (λ (w : Bor Text). w.now) _ _ _ c.word.ensures c.in_ok-word.was;
      dump_is = entry_of (λ (w : Bor Text). w.now) _ _ _ c.word-2.ensures c.in_ok-word-2.was;
      showing = c.showing_words.ensures;
    }
