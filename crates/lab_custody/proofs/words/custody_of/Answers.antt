use Rattle.std.proofs.Common.{Err, ap, inl, inr, refl, subst, ◌∙◌}
use Rattle.std.proofs.lemmas.Result.{IfOk-weaker}
use Rattle.program_words.specs.Grammar.{program_app}
use Rattle.program_words.specs.Met.{AsksText, IsUnmet, texts}
use Rattle.program_words.proofs.MetLemmas.{asked_by}
use Rattle.lab_commands.specs.Words.{lab_grammar}
use Rattle.lab_commands.proofs.GrammarLemmas.{simple_here}
use Rattle.lab_custody.specs.Words.{IsCustodyAt}
use Rattle.lab_custody.proofs.words.custody_of.Goals as goal

pub returns-in-Ok-Command : goal.returns-in-Ok-Command
returns-in-Ok-Command c =
    let told = c.commands_grammar.ensures in
    let met = c.in-Ok-Command.ensures.ok (simple_here _ told) in
    IfOk-weaker c.asked_at.result _ _ (λ found asked. inl (asked_by IsCustodyAt (program_app c.commands_grammar.result) lab_grammar (texts c.args.words.now) c.in-Ok-Command.name c.in-Ok-Command.words found told (rw c.in-Ok-Command.field-0-is at met) asked))
    c.asked_at.ensures

pub returns-in-Ok-Text : goal.returns-in-Ok-Text
returns-in-Ok-Text c =
    let told = c.commands_grammar.ensures in
    let met = c.in-Ok-Text.ensures.ok (simple_here _ told) in
    inr (refl, inr (subst (λ g. AsksText g (texts c.args.words.now)) told (rw c.in-Ok-Text.field-0-is at met)))

pub returns-in-Err-NoSuchCommand : goal.returns-in-Err-NoSuchCommand
returns-in-Err-NoSuchCommand c =
    let told = c.commands_grammar.ensures in
    let unmet = c.read_words.ensures.none (simple_here _ told) (c.in-Err-NoSuchCommand.is ∙ ap Err c.in-Err-NoSuchCommand.field-0-is) in
    inr (refl, inl (subst (λ g. IsUnmet g (texts c.args.words.now)) told unmet))
