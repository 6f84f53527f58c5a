use Rattle.std.proofs.Common.{◌≡◌, false, map, take}
use Rattle.clap.specs.declared.builder.command.Command.{out-Command}
use Rattle.clap.specs.Words.{app_of}
use Rattle.program_words.specs.Grammar as told
use Rattle.program_words.proofs.grammar.command_of.Given as goal

abbrev pub invariant-loop-place : goal.invariant-loop-place
invariant-loop-place l = record {
  told : app_of l.command ≡ told.alone (told.command_with_words l.rule.name.now (map told.word_rule (take l.place l.rule.words.now)));
  local : (out-Command l.command).has_globals ≡ false;
}
