use Rattle.std.proofs.Common.{sym}
use Rattle.lab_commands.proofs.words.until_words.Goals as goal

pub returns-in_err-array_words-clause-none : goal.returns-in_err-array_words-clause-none
returns-in_err-array_words-clause-none c = λ none read is. c.array_words.ensures.none c.in_err-array_words.was read.array is.array

pub returns-clause-some : goal.returns-clause-some
returns-clause-some c = record { array = c.in_ok-array_words.ensures.some; until_is = sym c.word.ensures; damaged_is = sym c.stands.ensures }
