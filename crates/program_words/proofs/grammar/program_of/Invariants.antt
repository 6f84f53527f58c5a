use Rattle.std.proofs.Common.{◌≡◌, map, take}
use Rattle.clap.specs.Words.{app_of}
use Rattle.program_words.specs.Grammar as told
use Rattle.program_words.proofs.grammar.program_of.Given as goal

abbrev pub invariant-loop-place : goal.invariant-loop-place
invariant-loop-place l = app_of l.whole ≡ told.program_of l.grammar.name.now (map told.command_shape (take l.place l.grammar.commands.now))
