use Rattle.std.proofs.Common.{◌≡◌}
use Rattle.clap.specs.Words.{app_of}
use Rattle.program_words.specs.Grammar.{program_app}
use Rattle.program_words.specs.Met.{texts}
use Rattle.program_words.specs.declared.met.GrammarFault.TheVariants as GrammarFault
use Rattle.program_words.proofs.MetLemmas.{command_met, kind_found, parses, text_asked, unmet}
use Rattle.program_words.proofs.met.read_words.Goals as goal

pub returns-in-Some-clause-ok : goal.returns-in-Some-clause-ok
returns-in-Some-clause-ok c = λ simple.
    let e = c.try_get_matches_from.ensures in
    let p = parses (app_of c.in_ok-program.program) (program_app c.args.grammar.now) (texts c.args.words.now) c.try_get_matches_from.result c.in_ok-program.ensures simple e.matches e.kinds in
    command_met _ _ _ c.in-Some.name c.in-Some.words c.in-Ok.matches _ p c.in-Ok.is (rw c.in-Some.is at c.command_of.ensures.some)

pub returns-in-Ok-text_of-clause-ok : goal.returns-in-Ok-text_of-clause-ok
returns-in-Ok-text_of-clause-ok c = λ simple.
    let e = c.try_get_matches_from.ensures in
    let p = parses (app_of c.in_ok-program.program) (program_app c.args.grammar.now) (texts c.args.words.now) c.try_get_matches_from.result c.in_ok-program.ensures simple e.matches e.kinds in
    text_asked c.in-Err.error _ (rw c.in-Ok-text_of.is at c.text_of.ensures.asked) (kind_found _ _ _ c.in-Err.error _ p c.in-Err.is)

pub returns-clause-none : goal.returns-clause-none
returns-clause-none c = λ simple none.
    let same : c.in-Err-text_of.fault ≡ GrammarFault.NoSuchCommand = cc in
    let e = c.try_get_matches_from.ensures in
    let p = parses (app_of c.in_ok-program.program) (program_app c.args.grammar.now) (texts c.args.words.now) c.try_get_matches_from.result c.in_ok-program.ensures simple e.matches e.kinds in
    unmet _ _ c.in-Err.error c.text_of.result c.in-Err-text_of.fault (kind_found _ _ _ c.in-Err.error _ p c.in-Err.is) c.in-Err-text_of.is c.text_of.ensures.other same
