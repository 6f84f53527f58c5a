use Rattle.std.proofs.Common.{sym}
use Rattle.lab_commands.proofs.words.repair_words.Goals as goal

pub returns-in_err-file-clause-none : goal.returns-in_err-file-clause-none
returns-in_err-file-clause-none c = λ none read is. c.out_words.ensures.none c.in_err-file.was _ is.file

pub returns-clause-some : goal.returns-clause-some
returns-clause-some c = record { file = c.in_ok-file.ensures.some; rows_are = sym c.word.ensures; bits_are = sym c.word-2.ensures }
