use Rattle.std.proofs.Common.{sym}
use Rattle.lab_commands.proofs.words.survey_words.Goals as goal

pub returns-in_err-source-clause-none : goal.returns-in_err-source-clause-none
returns-in_err-source-clause-none c = λ none read is. c.source_words.ensures.none c.in_err-source.was _ is.source

pub returns-clause-some : goal.returns-clause-some
returns-clause-some c = record { source = c.in_ok-source.ensures.some; rows_are = sym c.word.ensures }
