-- A grammar as `clap` is told it.
use Rattle.std.specs.Prelude.{ℕ, Bool, true, false, List, [], ◌∷◌, codes, map, Some}
use Rattle.clap.specs.declared.builder.action.ArgAction.{ArgAction}
use Rattle.clap.specs.declared.builder.action.ArgAction.TheVariants.{Append, Count, Set}
use Rattle.clap.specs.Simple.{new_shape}
use Rattle.clap.specs.Words.{App, Rule, Shape, new_rule}
use Rattle.program_words.specs.declared.grammar.CommandRule.{CommandRule}
use Rattle.program_words.specs.declared.grammar.Grammar.{Grammar}
use Rattle.program_words.specs.declared.grammar.WordKind.{WordKind}
use Rattle.program_words.specs.declared.grammar.WordKind.TheVariants as kind
use Rattle.program_words.specs.declared.grammar.WordRule.{WordRule}

-- the version that all programs tell
abbrev pub version_text : List ℕ
version_text = codes "0.1.0"

-- a word that a command wants, and what becomes of it
abbrev pub wanted_word : ArgAction → List ℕ → Rule
wanted_word action id = record (new_rule id) { action = Some action; required = true }

abbrev pub place : List ℕ → Rule
place id = wanted_word Set id

-- a word behind two dashes
abbrev pub flag : List ℕ → Rule
flag id = record (new_rule id) { action = Some Count; long = Some id }

-- one with another word behind it
abbrev pub option : List ℕ → Rule
option id = record (new_rule id) { action = Some Set; long = Some id; value_names = 1 }

-- a command of these words
abbrev pub command_with_words : List ℕ → List Rule → Shape
command_with_words name words = record (new_shape name) { rules = words }

abbrev pub are_none : List Shape → Bool
are_none [] = true
are_none (command ∷ rest) = false

-- a program of these commands, which tells its version, has no subcommand `help`, and wants a command
abbrev pub program_of : List ℕ → List Shape → App
program_of name commands = record {
  top = record (new_shape name) { is_leaf = are_none commands; has_version = true; disable_help_subcommand = true; subcommand_required = true };
  subs = commands;
}

-- ---- from what the program says of them

-- a word of this name and kind
abbrev pub rule_of_kind : List ℕ → WordKind → Rule
rule_of_kind id kind.Place = place id
rule_of_kind id kind.Places = wanted_word Append id
rule_of_kind id kind.Flag = flag id
rule_of_kind id (kind.Valued value) = option id

abbrev pub word_rule : WordRule → Rule
word_rule word = rule_of_kind word.id.now word.kind

abbrev pub command_shape : CommandRule → Shape
command_shape rule = command_with_words rule.name.now (map word_rule rule.words.now)

abbrev pub program_app : Grammar → App
program_app grammar = program_of grammar.name.now (map command_shape grammar.commands.now)

-- a command alone
abbrev pub alone : Shape → App
alone command = record { top = command; subs = [] }
