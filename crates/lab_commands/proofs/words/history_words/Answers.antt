use Rattle.std.specs.Borrow.{Bor}
use Rattle.clap.specs.Walk.{Text}
use Rattle.program_words.proofs.WordLemmas.{entry_of, lacks}
use Rattle.lab_commands.proofs.words.history_words.Goals as goal

pub returns-in_err-source-clause-none : goal.returns-in_err-source-clause-none
returns-in_err-source-clause-none c = λ none read is. c.source_words.ensures.none c.in_err-source.was _ is.source

pub returns-in_err-word-clause-none : goal.returns-in_err-word-clause-none
returns-in_err-word-clause-none c = λ none read is. lacks (λ (w : Bor Text). w.now) _ _ _ c.word.ensures c.in_err-word.was is.sector_is

pub returns-clause-some : goal.returns-clause-some
returns-clause-some c = record { source = c.in_ok-source.ensures.some; sector_is = entry_of (λ (w : Bor Text). w.now) _ _ _ c.word.ensures c.in_ok-word.was }
