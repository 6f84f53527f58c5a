use Rattle.std.proofs.lemmas.Grind.{common_steps}
use Rattle.std.proofs.Common.{length, arith, ap}
use Rattle.std.proofs.lemmas.List.{length-map}
use Rattle.page_layout.specs.Word.{row_of_word}
use Rattle.certificate.specs.Claim.{Claim}
use Rattle.certificate.proofs.RowLemmas.{row_at}
use Rattle.certificate.proofs.certificate.Certificate.sector_row.Goals as goal

pub returns-clause-row : goal.returns-clause-row
returns-clause-row c =
    let words = c.self.inside.sectors.items in
    let long = ap (λ (claim : Claim). length claim.sectors) c.self.view_is in
    rw (← c.self.view_is, c.row_from.ensures.value) (row_at _ words _ c.index.result.now c.self.invariant.sectors (omega (arith, long, length-map words row_of_word)) c.index.ensures)

pub index-requires : goal.index-requires
index-requires c = grind (arith, common_steps)
