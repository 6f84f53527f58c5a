-- A grammar as `clap` is told it, one word and one command more at a time.
use Rattle.std.proofs.Common.{◌≡◌, ◌<◌, ◌++◌, ◌∷◌, [], ℕ, suc, List, length, map, take, get_or, refl, ap, sym, ◌∙◌}
use Rattle.std.proofs.Math.Seq.{take-suc}
use Rattle.std.proofs.lemmas.List.{map_push}
use Rattle.clap.specs.Walk.{Text}
use Rattle.clap.specs.Words.{App, Rule, Shape, with_rule, with_subcommand}
use Rattle.program_words.specs.declared.grammar.CommandRule.{CommandRule}
use Rattle.program_words.specs.declared.grammar.WordRule.{WordRule}
use Rattle.program_words.specs.Grammar.{alone, command_with_words, command_shape, program_of, word_rule}

-- the first n, of which the last stands at k
one_more : {X : Type 0} (xs : List X) (k n : ℕ) (x : X) → n ≡ suc k → k < length xs → take n xs ≡ take k xs ++ get_or xs k x ∷ []
one_more xs k n x next within = ap (λ m. take m xs) next ∙ take-suc xs k x within

rules_then : (words : List WordRule) (k n : ℕ) (d : WordRule) → n ≡ suc k → k < length words → map word_rule (take n words) ≡ map word_rule (take k words) ++ word_rule (get_or words k d) ∷ []
rules_then words k n d next within = ap (map word_rule) (one_more words k n d next within) ∙ map_push word_rule (take k words) (get_or words k d)

pub one_word : (a b : App) (name : Text) (words : List WordRule) (k n : ℕ) (d : WordRule) (r : Rule) → n ≡ suc k → k < length words → r ≡ word_rule (get_or words k d)
    → a ≡ alone (command_with_words name (map word_rule (take k words))) → b ≡ with_rule a r → b ≡ alone (command_with_words name (map word_rule (take n words)))
one_word a b name words k n d r next within is before longer =
    longer ∙ (ap (λ x. with_rule x r) before
    ∙ (ap (λ x. alone (command_with_words name (map word_rule (take k words) ++ x ∷ []))) is
    ∙ ap (λ rules. alone (command_with_words name rules)) (sym (rules_then words k n d next within))))

commands_then : (commands : List CommandRule) (k n : ℕ) (d : CommandRule) → n ≡ suc k → k < length commands → map command_shape (take n commands) ≡ map command_shape (take k commands) ++ command_shape (get_or commands k d) ∷ []
commands_then commands k n d next within = ap (map command_shape) (one_more commands k n d next within) ∙ map_push command_shape (take k commands) (get_or commands k d)

program_then : (name : Text) (commands : List Shape) (command : Shape) → program_of name (commands ++ command ∷ []) ≡ with_subcommand (program_of name commands) command
program_then name [] command = refl
program_then name (first ∷ rest) command = refl

pub one_command : (a b s : App) (name : Text) (commands : List CommandRule) (k n : ℕ) (d : CommandRule) → n ≡ suc k → k < length commands → s ≡ alone (command_shape (get_or commands k d))
    → a ≡ program_of name (map command_shape (take k commands)) → b ≡ with_subcommand a s.top → b ≡ program_of name (map command_shape (take n commands))
one_command a b s name commands k n d next within is before more =
    more ∙ (ap (λ (x : App). with_subcommand x s.top) before
    ∙ (ap (λ (x : App). with_subcommand (program_of name (map command_shape (take k commands))) x.top) is
    ∙ (sym (program_then name (map command_shape (take k commands)) (command_shape (get_or commands k d)))
    ∙ ap (program_of name) (sym (commands_then commands k n d next within)))))
