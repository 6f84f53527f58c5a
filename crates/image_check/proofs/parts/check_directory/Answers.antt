use Rattle.std.proofs.Common.{◌+◌, ap, ◌∙◌, arith}
use Rattle.image_check.specs.Newest.{place_in}
use Rattle.image_check.proofs.PartLemmas.{directory_holds, directory_wrong}
use Rattle.image_check.proofs.parts.check_directory.Goals as goal

pub returns-then-not-same_row-clause-err : goal.returns-then-not-same_row-clause-err
returns-then-not-same_row-clause-err c = λ capacity image h.
    directory_wrong c.args.survey.now.geometry capacity image c.args.survey.now.newest.items c.args.certificate.now c.loop-page.page (c.sectors-sectors.result + c.loop-page.page) c.index.result.now c.directory_row.result
    (record { whole = h.whole; noted = h.noted }) (omega arith) (omega arith) c.directory_row.ensures.is (λ e. c.same_row.ensures.no c.if-not-same_row.true (c.row-newest.ensures ∙ ap place_in c.index.ensures ∙ e))
    (λ j l. rw (← c.sectors-sectors.ensures) (c.loop-page.invariant j l))

pub returns-clause-ok : goal.returns-clause-ok
returns-clause-ok c = λ image h. directory_holds c.args.survey.now.geometry image c.args.survey.now.newest.items c.args.certificate.now.directory h.whole h.noted (λ n k. rw (← c.sectors-sectors.ensures) (c.loop-page.invariant n (omega arith)))
