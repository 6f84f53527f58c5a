use Rattle.std.proofs.Common.{◌<◌, length, ap, arith, ◌∙◌, sym, rules, Some}
use Rattle.translation_pages.specs.TranslationPage.{row_of_word, entry_at}
use Rattle.translation_pages.proofs.PageLemmas.{entry_at-translation_bytes, length-translation_bytes, translation_bytes-entries_of, entry_at-filled}
use Rattle.translation_pages.proofs.page.entry.Goals as goal

pub returns-clause-value : goal.returns-clause-value
unfolding entry_at
returns-clause-value c = c.row_from.ensures.value ∙ ap row_of_word c.read_word.ensures

pub returns-clause-spelled : goal.returns-clause-spelled
returns-clause-spelled c =
    λ es rows e.
    let n = length-translation_bytes es in
    let m = ap length e in
    let within : c.args.i < length es = omega arith in
    entry_at-translation_bytes es c.args.i rows within ∙ ap Some (ap (λ p. entry_at p c.args.i) (sym e) ∙ sym (returns-clause-value c))

pub returns-clause-spells : goal.returns-clause-spells
returns-clause-spells c = λ n l. translation_bytes-entries_of n c.args.page.now l (λ k. search rules)

pub returns-clause-erased : goal.returns-clause-erased
returns-clause-erased c = λ e. returns-clause-value c ∙ entry_at-filled c.args.page.now c.args.i e c.requires
