use Rattle.std.proofs.Common.{◌∙◌, ap, is_some, sym}
use Rattle.page_layout.specs.Page.{page}
use Rattle.lab_dump.proofs.CountLemmas.{broken_of, whole_erased, whole_sound}
use Rattle.lab_dump.proofs.SaidLemmas.{says_so, says_whole}
use Rattle.lab_dump.proofs.damaged.says.Goals as goal

pub returns-then-is_some : goal.returns-then-is_some
returns-then-is_some c =
    let p = page c.args.body.now c.args.spare.now in
    sym (says_whole c.args.geometry.now p (whole_sound p (ap is_some (sym c.requires.found) ∙ (sym c.is_some.ensures ∙ c.if-is_some.true))))

pub returns-then-is_erased : goal.returns-then-is_erased
returns-then-is_erased c =
    let p = page c.args.body.now c.args.spare.now in
    sym (says_whole c.args.geometry.now p (whole_erased p (sym c.is_erased.ensures ∙ c.if-is_erased.true)))

pub returns : goal.returns
returns c =
    let p = page c.args.body.now c.args.spare.now in
    let broken = broken_of p (sym c.is_erased.ensures ∙ c.if-is_erased.false) (ap is_some (sym c.requires.found) ∙ (sym c.is_some.ensures ∙ c.if-is_some.false)) in
    c.spelled_of_die.ensures ∙ sym (says_so c.args.geometry.now p broken)
