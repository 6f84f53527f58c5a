use Rattle.std.proofs.Common.{◌≡◌, Err, ap, subst, ◌∙◌}
use Rattle.program_words.specs.Grammar.{program_app}
use Rattle.program_words.specs.Met.{texts, AsksText}
use Rattle.program_words.specs.declared.met.GrammarFault.TheVariants as GrammarFault
use Rattle.program_words.proofs.MetLemmas.{none_by, unmet_by}
use Rattle.disk_commands.specs.Words.{disk_grammar, IsDiskCommandAt}
use Rattle.disk_commands.proofs.GrammarLemmas.{asked_as, simple_here}
use Rattle.disk_commands.proofs.words.parse.Goals as goal

pub returns-in-Ok-Command-clause-ok : goal.returns-in-Ok-Command-clause-ok
returns-in-Ok-Command-clause-ok c =
    let told = c.grammar.ensures in
    let met = c.in-Ok-Command.ensures.ok (simple_here _ told) in
    asked_as c.asked_at.result (program_app c.grammar.result) (texts c.args.words.now) c.in-Ok-Command.name c.in-Ok-Command.words told
    (rw c.in-Ok-Command.field-0-is at met) c.asked_at.ensures.some

pub returns-in-Ok-Command-clause-none : goal.returns-in-Ok-Command-clause-none
returns-in-Ok-Command-clause-none c = λ is.
    let told = c.grammar.ensures in
    let met = c.in-Ok-Command.ensures.ok (simple_here _ told) in
    none_by IsDiskCommandAt (program_app c.grammar.result) disk_grammar (texts c.args.words.now) c.in-Ok-Command.name c.in-Ok-Command.words told
    (rw c.in-Ok-Command.field-0-is at met) (c.asked_at.ensures.none is)

pub returns-in-Ok-Text-clause-ok : goal.returns-in-Ok-Text-clause-ok
returns-in-Ok-Text-clause-ok c =
    let told = c.grammar.ensures in
    let met = c.in-Ok-Text.ensures.ok (simple_here _ told) in
    subst (λ g. AsksText g (texts c.args.words.now)) told (rw c.in-Ok-Text.field-0-is at met)

pub returns-in-Err-clause-none : goal.returns-in-Err-clause-none
returns-in-Err-clause-none c = λ is.
    let told = c.grammar.ensures in
    let same : c.in-Err.fault ≡ GrammarFault.NoSuchCommand = cc in
    unmet_by IsDiskCommandAt (program_app c.grammar.result) disk_grammar (texts c.args.words.now) told (c.read_words.ensures.none (simple_here _ told) (c.in-Err.is ∙ ap Err same))
