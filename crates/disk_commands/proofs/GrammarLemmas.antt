-- The grammar is one of which `clap` tells what it makes of all words.
use Rattle.std.proofs.Common.{◌≡◌, ℕ, true, List, Result, Ok, Err, IfOk, refl, ap, ◌∙◌}
use Rattle.std.specs.Borrow.{Bor}
use Rattle.clap.proofs.OnLiterals.{clap_on_literals}
use Rattle.clap.specs.Words.{App, is_simple_and_free}
use Rattle.program_words.specs.declared.met.CommandWords.{CommandWords}
use Rattle.program_words.specs.declared.met.Met.TheVariants as met
use Rattle.program_words.specs.declared.met.GrammarFault.{GrammarFault}
use Rattle.program_words.specs.Met.{IsMet, command_entries}
use Rattle.program_words.proofs.MetLemmas.{asked_by}
use Rattle.disk_commands.specs.declared.words.DiskWords.{DiskWords}
use Rattle.disk_commands.specs.declared.words.DiskWords.TheVariants as asked
use Rattle.disk_commands.specs.Words.{disk_grammar, AsksDiskProgram, IsDiskCommandAt}

simple_grammar : is_simple_and_free disk_grammar ≡ true
unfolding clap_on_literals
simple_grammar = refl

pub simple_here : (g : App) → g ≡ disk_grammar → is_simple_and_free g ≡ true
simple_here g same = ap is_simple_and_free same ∙ simple_grammar

-- a command that was met is what the words ask for
command_by : (found : DiskWords) (g : App) (words : List (List ℕ)) (name : Bor (List ℕ)) (given : CommandWords) → g ≡ disk_grammar → IsMet g words (met.Command name given) → IsDiskCommandAt name.now (command_entries given) found → AsksDiskProgram words found
command_by (asked.Create read) g words name given same is at = asked_by IsDiskCommandAt g disk_grammar words name given (asked.Create read) same is at
command_by (asked.Serve read) g words name given same is at = asked_by IsDiskCommandAt g disk_grammar words name given (asked.Serve read) same is at
command_by (asked.Info read) g words name given same is at = asked_by IsDiskCommandAt g disk_grammar words name given (asked.Info read) same is at
command_by (asked.Check read) g words name given same is at = asked_by IsDiskCommandAt g disk_grammar words name given (asked.Check read) same is at
command_by (asked.Text text) g words name given same is at = absurd at

-- of all that a command with these words may ask for
pub asked_as : (r : Result DiskWords GrammarFault) (g : App) (words : List (List ℕ)) (name : Bor (List ℕ)) (given : CommandWords) → g ≡ disk_grammar → IsMet g words (met.Command name given) → IfOk r (IsDiskCommandAt name.now (command_entries given)) → IfOk r (AsksDiskProgram words)
asked_as (Ok found) g words name given same is at = command_by found g words name given same is at
asked_as (Err fault) g words name given same is at = tt
