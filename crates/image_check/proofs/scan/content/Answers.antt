use Rattle.std.proofs.Common.{◌≡◌, Some, sym, ap, ◌∙◌}
use Rattle.page_layout.specs.Page.{page}
use Rattle.page_layout.specs.declared.record.Record.{Record}
use Rattle.image_check.proofs.SectorLemmas.{held, not_held}
use Rattle.image_check.proofs.scan.content.Goals as goal

pub returns-then-holds_sector-clause-is : goal.returns-then-holds_sector-clause-is
returns-then-holds_sector-clause-is c = λ of_sector.
    held c.args.geometry.now c.args.sector (page c.args.body.now c.args.spare.now) c.in-Some.found (sym c.in-Some.is ∙ c.read_record.ensures) (c.holds_sector.ensures.0 c.if-holds_sector.true).0

pub returns-else-holds_sector-clause-is : goal.returns-else-holds_sector-clause-is
returns-else-holds_sector-clause-is c = λ of_sector.
    not_held c.args.geometry.now c.args.sector (page c.args.body.now c.args.spare.now) (Some c.in-Some.found) (sym c.in-Some.is ∙ c.read_record.ensures)
    (λ r e kind number.
    let same : c.in-Some.found ≡ r = cc in
    let yes = c.holds_sector.ensures.1 (ap (λ (x : Record). x.kind) same ∙ kind, ap (λ (x : Record). x.number) same ∙ number) in
    let no = c.if-holds_sector.false in cc)
    of_sector

pub returns-in_default-clause-is : goal.returns-in_default-clause-is
returns-in_default-clause-is c = λ of_sector.
    not_held c.args.geometry.now c.args.sector (page c.args.body.now c.args.spare.now) c.read_record.result c.read_record.ensures
    (λ r e kind number. c.in_default.not-Some r e)
    of_sector
