use Rattle.std.proofs.Common.{sym, ap, ◌∙◌, arith, Some}
use Rattle.image_check.proofs.SurveyLemmas.{passed_none, passed_set, none_sound, none_of_sector, none_past, none_claimed}
use Rattle.image_check.proofs.page_notes.note_claim.Goals as goal

pub returns-in_default : goal.returns-in_default
returns-in_default c = λ ms h e. passed_none ms c.args.row c.args.certificate.now.sectors c.args.passed.now h (none_sound ms c.args.row c.args.certificate.now.sectors (e ∙ c.in_default.is))

pub returns-in_default-key : goal.returns-in_default-key
returns-in_default-key c = λ ms h e. passed_none ms c.args.row c.args.certificate.now.sectors c.args.passed.now h
    (none_of_sector ms c.args.row c.args.certificate.now.sectors c.in-Some.found (e ∙ c.in-Some.is) (λ n x. c.in_default-key.not-Sector n (c.key.ensures ∙ x)))

pub returns-then-sector-passed : goal.returns-then-sector-passed
returns-then-sector-passed c = λ ms h e. passed_none ms c.args.row c.args.certificate.now.sectors c.args.passed.now h
    (none_past ms c.args.row c.in-Sector.sector c.args.certificate.now.sectors c.in-Some.found (e ∙ c.in-Some.is) (sym c.key.ensures ∙ c.in-Sector.is) (omega arith))

pub returns-then-same_row : goal.returns-then-same_row
returns-then-same_row c = λ ms h e. passed_set ms c.args.row c.in-Sector.sector c.args.certificate.now.sectors c.args.passed.now c.in-Some.found h (e ∙ c.in-Some.is) (sym c.key.ensures ∙ c.in-Sector.is)
    (c.sector_row.ensures.is ∙ ap Some (c.same_row.ensures.yes c.if-same_row.true)) (omega arith)

pub returns-else-same_row : goal.returns-else-same_row
returns-else-same_row c = λ ms h e. passed_none ms c.args.row c.args.certificate.now.sectors c.args.passed.now h
    (none_claimed ms c.args.row c.in-Sector.sector c.args.certificate.now.sectors c.in-Some.found c.sector_row.result (e ∙ c.in-Some.is) (sym c.key.ensures ∙ c.in-Sector.is) c.sector_row.ensures.is (c.same_row.ensures.no c.if-same_row.false))
