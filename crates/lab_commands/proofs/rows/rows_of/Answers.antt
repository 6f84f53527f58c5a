use Rattle.std.proofs.Common.{◌≡◌, ◌∷◌, Some, None, refl, ap, ◌∙◌, lit<}
use Rattle.std.proofs.lemmas.Str.Pattern.{strip_prefix_char}
use Rattle.program_words.specs.Numbers.{number_of}
use Rattle.lab_commands.proofs.RowLemmas.{cut_front, uncut, stripped, unstripped}
use Rattle.lab_commands.proofs.rows.rows_of.Goals as goal

pub returns-in_err-first-clause-all : goal.returns-in_err-first-clause-all
returns-in_err-first-clause-all c rows s =
    absurd (uncut rows.first _ s.0 (46 ∷ s.1) c.split_once.result c.split_once.ensures.cases s.2 s.3 c.in_err-first.was)

pub returns-in_err-end-clause-all : goal.returns-in_err-end-clause-all
returns-in_err-end-clause-all c rows s =
    let parts = cut_front rows.first _ s.0 (46 ∷ s.1) c.split_once.result _ _ c.split_once.ensures.cases s.2 s.3 c.in_ok-first.was in
    absurd (unstripped _ s.1 c.strip_prefix.result (strip_prefix_char 46 _ c.strip_prefix.result c.strip_prefix.ensures.cases (lit< tt)) parts.1 c.in_err-end.was)

pub returns-in_err-number-clause-all : goal.returns-in_err-number-clause-all
returns-in_err-number-clause-all c rows s =
    let parts = cut_front rows.first _ s.0 (46 ∷ s.1) c.split_once.result _ _ c.split_once.ensures.cases s.2 s.3 c.in_ok-first.was in
    let written : c.number.result ≡ Some rows.first = c.number.ensures ∙ ap number_of parts.0 ∙ s.3 in
    let failed : c.number.result ≡ None = c.in_err-number.was in
    absurd (cc)

pub returns-in_err-number-2-clause-all : goal.returns-in_err-number-2-clause-all
returns-in_err-number-2-clause-all c rows s =
    let parts = cut_front rows.first _ s.0 (46 ∷ s.1) c.split_once.result _ _ c.split_once.ensures.cases s.2 s.3 c.in_ok-first.was in
    let back = stripped _ s.1 c.strip_prefix.result _ (strip_prefix_char 46 _ c.strip_prefix.result c.strip_prefix.ensures.cases (lit< tt)) parts.1 c.in_ok-end.was in
    let written : c.number-2.result ≡ Some rows.end = c.number-2.ensures ∙ ap number_of back ∙ s.4 in
    let failed : c.number-2.result ≡ None = c.in_err-number-2.was in
    absurd (cc)

pub returns-clause-all : goal.returns-clause-all
returns-clause-all c rows s =
    let parts = cut_front rows.first _ s.0 (46 ∷ s.1) c.split_once.result _ _ c.split_once.ensures.cases s.2 s.3 c.in_ok-first.was in
    let back = stripped _ s.1 c.strip_prefix.result _ (strip_prefix_char 46 _ c.strip_prefix.result c.strip_prefix.ensures.cases (lit< tt)) parts.1 c.in_ok-end.was in
    let first : c.number.result ≡ Some rows.first = c.number.ensures ∙ ap number_of parts.0 ∙ s.3 in
    let end : c.number-2.result ≡ Some rows.end = c.number-2.ensures ∙ ap number_of back ∙ s.4 in
    let found : c.number.result ≡ Some c.in_ok-number.field-0 = c.in_ok-number.was in
    let found_end : c.number-2.result ≡ Some c.in_ok-number-2.field-0 = c.in_ok-number-2.was in
    let first_is : c.in_ok-number.field-0 ≡ rows.first = cc in
    let end_is : c.in_ok-number-2.field-0 ≡ rows.end = cc in
    rw first_is (rw end_is refl)
