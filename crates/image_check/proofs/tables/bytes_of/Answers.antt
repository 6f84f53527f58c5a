use Rattle.std.proofs.Common.{◌≡◌, ◌+◌, ◌*◌, arith, ap, ◌∙◌}
use Rattle.std.specs.Prelude.{slice_range}
use Rattle.page_layout.specs.Geometry.{table_pages}
use Rattle.image_check.proofs.TablesLemmas.{body_kept, room_of, data_size, sliced}
use Rattle.image_check.proofs.tables.bytes_of.Goals as goal

pub returns-clause-kept : goal.returns-clause-kept
returns-clause-kept c = λ image h formatted.
    let g = c.args.survey.now.geometry in
    let size = c.data_bytes-size.result in
    let at = c.args.page * size in
    let place : at ≡ c.args.page * g.data_bytes = ap (λ k. c.args.page * k) c.data_bytes-size.ensures in
    body_kept g image c.args.survey.now.newest.items c.args.survey.now.tables.items c.args.page at size _ h formatted c.requires.within place c.data_bytes-size.ensures
    (ap (λ xs. slice_range xs at (at + size)) c.deref.ensures.value) (room_of c.args.page (table_pages g) at size g.data_bytes _ c.requires.within place (omega arith) c.requires.tables)

pub returns-clause-whole : goal.returns-clause-whole
returns-clause-whole c =
    let g = c.args.survey.now.geometry in
    let size = c.data_bytes-size.result in
    let at = c.args.page * size in
    let room = room_of c.args.page (table_pages g) at size g.data_bytes _ c.requires.within (ap (λ k. c.args.page * k) c.data_bytes-size.ensures) (omega arith) c.requires.tables in
    data_size g _ (sliced c.deref.result.now at size (rw c.deref.ensures.value room) ∙ c.data_bytes-size.ensures)
