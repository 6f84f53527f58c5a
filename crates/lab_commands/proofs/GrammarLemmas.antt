-- The grammar is one of which `clap` tells what it makes of all words.
use Rattle.std.proofs.Common.{◌≡◌, ℕ, true, List, Result, Ok, Err, IfOk, refl, ap, ◌∙◌}
use Rattle.std.specs.Borrow.{Bor}
use Rattle.clap.proofs.OnLiterals.{clap_on_literals}
use Rattle.clap.specs.Words.{App, is_simple_and_free}
use Rattle.program_words.specs.declared.met.CommandWords.{CommandWords}
use Rattle.program_words.specs.declared.met.Met.TheVariants as met
use Rattle.program_words.specs.declared.met.GrammarFault.{GrammarFault}
use Rattle.program_words.specs.Met.{IsMet, command_entries}
use Rattle.program_words.proofs.MetLemmas.{asked_by}
use Rattle.lab_commands.specs.declared.words.Asked.{Asked}
use Rattle.lab_commands.specs.declared.words.Asked.TheVariants as asked
use Rattle.lab_commands.specs.Words.{lab_grammar, AsksLabProgram, IsLabCommandAt}

simple_grammar : is_simple_and_free lab_grammar ≡ true
unfolding clap_on_literals
simple_grammar = refl

pub simple_here : (g : App) → g ≡ lab_grammar → is_simple_and_free g ≡ true
simple_here g same = ap is_simple_and_free same ∙ simple_grammar

-- a command that was met is what the words ask for
command_by : (found : Asked) (g : App) (words : List (List ℕ)) (name : Bor (List ℕ)) (given : CommandWords) → g ≡ lab_grammar → IsMet g words (met.Command name given) → IsLabCommandAt name.now (command_entries given) found → AsksLabProgram words found
command_by (asked.Geometry read) g words name given same is at = asked_by IsLabCommandAt g lab_grammar words name given (asked.Geometry read) same is at
command_by (asked.Array read) g words name given same is at = asked_by IsLabCommandAt g lab_grammar words name given (asked.Array read) same is at
command_by (asked.History read) g words name given same is at = asked_by IsLabCommandAt g lab_grammar words name given (asked.History read) same is at
command_by (asked.Survey read) g words name given same is at = asked_by IsLabCommandAt g lab_grammar words name given (asked.Survey read) same is at
command_by (asked.Compare read) g words name given same is at = asked_by IsLabCommandAt g lab_grammar words name given (asked.Compare read) same is at
command_by (asked.Merge read) g words name given same is at = asked_by IsLabCommandAt g lab_grammar words name given (asked.Merge read) same is at
command_by (asked.Repair read) g words name given same is at = asked_by IsLabCommandAt g lab_grammar words name given (asked.Repair read) same is at
command_by (asked.Correct read) g words name given same is at = asked_by IsLabCommandAt g lab_grammar words name given (asked.Correct read) same is at
command_by (asked.Arrange read) g words name given same is at = asked_by IsLabCommandAt g lab_grammar words name given (asked.Arrange read) same is at
command_by (asked.Origin read) g words name given same is at = asked_by IsLabCommandAt g lab_grammar words name given (asked.Origin read) same is at
command_by (asked.Text text) g words name given same is at = absurd at

-- of all that a command with these words may ask for
pub asked_as : (r : Result Asked GrammarFault) (g : App) (words : List (List ℕ)) (name : Bor (List ℕ)) (given : CommandWords) → g ≡ lab_grammar → IsMet g words (met.Command name given) → IfOk r (IsLabCommandAt name.now (command_entries given)) → IfOk r (AsksLabProgram words)
asked_as (Ok found) g words name given same is at = command_by found g words name given same is at
asked_as (Err fault) g words name given same is at = tt
