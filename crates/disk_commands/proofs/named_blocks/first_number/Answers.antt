use Rattle.std.proofs.Common.{◌≡◌, Some, None, ◌∙◌}
use Rattle.program_words.proofs.NumberLemmas.{cut_front, uncut}
use Rattle.disk_commands.proofs.named_blocks.first_number.Goals as goal

pub returns-in_err-front-clause-all : goal.returns-in_err-front-clause-all
returns-in_err-front-clause-all c n rest starts =
    absurd (uncut n _ rest c.split_once.result c.split_once.ensures.cases starts c.in_err-front.was)

pub returns-in_err-number-clause-all : goal.returns-in_err-number-clause-all
returns-in_err-number-clause-all c n rest starts =
    let parts = cut_front n _ rest c.split_once.result _ _ c.split_once.ensures.cases starts c.in_ok-front.was in
    let written : c.number.result ≡ Some n = c.number.ensures ∙ parts.0 in
    let failed : c.number.result ≡ None = c.in_err-number.was in
    absurd (cc)

pub returns-clause-all : goal.returns-clause-all
returns-clause-all c n rest starts =
    let parts = cut_front n _ rest c.split_once.result _ _ c.split_once.ensures.cases starts c.in_ok-front.was in
    let written : c.number.result ≡ Some n = c.number.ensures ∙ parts.0 in
    let found : c.number.result ≡ Some c.in_ok-number.field-0 = c.in_ok-number.was in
    (cc, parts.1)
