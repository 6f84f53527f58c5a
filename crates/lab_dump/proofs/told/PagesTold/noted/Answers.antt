use Rattle.std.proofs.Common.{ap, ◌∙◌, arith, take, drop, length-take-le}
use Rattle.page_layout.specs.Page.{page}
use Rattle.page_layout.specs.PageLook.{look_of}
use Rattle.lab_dump.specs.Told.{told_with_page}
use Rattle.lab_dump.proofs.told.PagesTold.noted.Goals as goal

pub returns-then-not-may_rise : goal.returns-then-not-may_rise
returns-then-not-may_rise c =
    let geo = c.args.geometry.now in
    let d = geo.data_bytes in
    let bytes = c.args.page.now in
    let back = c.split_at.ensures.back ∙ ap (λ k. drop k bytes) c.data_bytes.ensures in
    c.may_rise.ensures.same c.if-not-may_rise.true (take d bytes) (length-take-le d bytes (omega arith)) ∙ ap (λ s. told_with_page c.args.self (look_of (page (take d bytes) s)) (take d bytes)) back
