use Rattle.std.proofs.Common.{ap, ◌∙◌, rules}
use Rattle.translation_pages.specs.TranslationPage.{row_of_word, entry_at}
use Rattle.page_layout.proofs.WordLemmas.{row_again}
use Rattle.translation_pages.proofs.PageLemmas.{translation_bytes-patched}
use Rattle.translation_pages.proofs.page.patch.Goals as goal

pub returns-clause-written : goal.returns-clause-written
unfolding entry_at
returns-clause-written c = ap row_of_word (c.write_word.ensures.written ∙ c.word_from.ensures) ∙ row_again c.args.row c.requires.row

pub returns-clause-others : goal.returns-clause-others
unfolding entry_at
returns-clause-others c = λ k ne. ap row_of_word (c.write_word.ensures.others k ne)

pub returns-clause-spelled : goal.returns-clause-spelled
returns-clause-spelled c = λ es e. translation_bytes-patched es c.args.page.now c.write_word.new.page c.args.i c.args.row c.requires.row e c.write_word.auto.page (λ k. search rules) c.requires.within (returns-clause-written c) (returns-clause-others c)
