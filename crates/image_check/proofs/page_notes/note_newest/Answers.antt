use Rattle.std.proofs.Common.{ap, subst, ◌∙◌, sym}
use Rattle.page_layout.specs.Live.{IsKeyOf}
use Rattle.image_check.specs.Survey.{index_of}
use Rattle.image_check.proofs.SurveyLemmas.{newest_set, newest_none, newest_outside}
use Rattle.image_check.proofs.WithinLemmas.{within_more, within_set}
use Rattle.image_check.proofs.page_notes.note_newest.Goals as goal

pub returns-in-Some-index_of-clause-newest : goal.returns-in-Some-index_of-clause-newest
returns-in-Some-index_of-clause-newest c = λ ms h e.
    let both = c.in-Some-index_of.ensures in
    let g = c.args.geometry.now in
    let within = subst (λ k. IsKeyOf g k) c.key.ensures both.0 in
    newest_set g ms c.args.row c.in-Some-index_of.index c.args.newest.now c.in-Some.found _ _ h (e ∙ c.in-Some.is) within (both.1 ∙ ap (index_of g) c.key.ensures) c.step.ensures.next

pub returns-in_default-clause-newest : goal.returns-in_default-clause-newest
returns-in_default-clause-newest c = λ ms h e. newest_none c.args.geometry.now ms c.args.row c.args.newest.now h (e ∙ c.in_default.is)

pub returns-in_default-index_of-clause-newest : goal.returns-in_default-index_of-clause-newest
returns-in_default-index_of-clause-newest c = λ ms h e.
    let g = c.args.geometry.now in
    newest_outside g ms c.args.row c.args.newest.now c.in-Some.found h (e ∙ c.in-Some.is) (λ within. c.in_default-index_of.ensures (subst (λ k. IsKeyOf g k) (sym c.key.ensures) within))

pub returns-in-Some-index_of-clause-within : goal.returns-in-Some-index_of-clause-within
returns-in-Some-index_of-clause-within c =
    let both = c.in-Some-index_of.ensures in
    within_set c.args.geometry.now _ c.args.row c.in-Some-index_of.index c.args.newest.now _ c.step.result c.requires.size both.0 both.1 c.step.ensures.within c.requires.within

pub returns-in_default-clause-within : goal.returns-in_default-clause-within
returns-in_default-clause-within c = within_more c.args.row c.args.newest.now c.requires.within

pub returns-in_default-index_of-clause-within : goal.returns-in_default-index_of-clause-within
returns-in_default-index_of-clause-within c = within_more c.args.row c.args.newest.now c.requires.within
