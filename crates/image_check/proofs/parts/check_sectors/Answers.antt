use Rattle.std.proofs.Common.{ap, ◌∙◌, arith}
use Rattle.image_check.specs.Newest.{place_in}
use Rattle.image_check.proofs.PartLemmas.{sectors_hold, not_newest}
use Rattle.image_check.proofs.parts.check_sectors.Goals as goal

pub returns-then-not-same_row-clause-err : goal.returns-then-not-same_row-clause-err
returns-then-not-same_row-clause-err c = λ capacity image h distinct claims.
    rw c.unwrap_or-row.ensures (
    not_newest c.args.survey.now.geometry capacity image c.args.survey.now.newest.items c.args.certificate.now c.loop-sector.sector c.index.result.now
    c.row-newest.result c.sector_row-claimed.result (record { whole = h.whole; noted = h.noted }) distinct claims c.requires.sectors (omega arith)
    c.sector_row-claimed.ensures.is
    (c.row-newest.ensures ∙ ap place_in c.index.ensures) (c.same_row.ensures.no c.if-not-same_row.true) c.loop-sector.invariant)

pub returns-clause-ok : goal.returns-clause-ok
returns-clause-ok c = λ image h. sectors_hold c.args.survey.now.geometry image c.args.survey.now.newest.items c.args.certificate.now.sectors h.whole h.noted (λ n k. c.loop-sector.invariant n (omega arith))
