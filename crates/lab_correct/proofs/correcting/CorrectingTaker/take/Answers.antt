use Rattle.std.proofs.Common.{◌∙◌, length, drop, arith}
use Rattle.std.proofs.lemmas.List.{take_at}
use Rattle.page_layout.specs.Page.{page}
use Rattle.lab_dump.proofs.ScanLemmas.{ok_map}
use Rattle.lab_correct.proofs.TakenLemmas.{made_by, sizes_by}
use Rattle.lab_correct.proofs.correcting.CorrectingTaker.take.Goals as goal

pub returns-clause-stands : goal.returns-clause-stands
returns-clause-stands g c =
    let bytes = c.correct_page-tally.new.bytes in
    let s = c.args.self.now in
    let back = take_at bytes (drop (length bytes) s.scratch.items) s.scratch.len (omega arith) in
    let e = c.correct_page-tally.ensures in
    ok_map _ _ c.put.result (λ more. more (page c.args.areas.body.now c.args.areas.spare.now) (sizes_by s.geometry c.args.geometry.now c.args.areas.body.now c.args.areas.spare.now c.requires.stands.of c.requires.body_whole c.requires.spare_whole)
    (made_by s.geometry c.args.areas.body.now c.args.areas.spare.now _ _ _ (back ∙ e.page) e.turned e.lost)) c.put.ensures.stands

pub returns-clause-shows : goal.returns-clause-shows
returns-clause-shows g c =
    let bytes = c.correct_page-tally.new.bytes in
    let s = c.args.self.now in
    let back = take_at bytes (drop (length bytes) s.scratch.items) s.scratch.len (omega arith) in
    let e = c.correct_page-tally.ensures in
    ok_map _ _ c.put.result (λ more image shown at. more image (page c.args.areas.body.now c.args.areas.spare.now) shown at (made_by s.geometry c.args.areas.body.now c.args.areas.spare.now _ _ _ (back ∙ e.page) e.turned e.lost)) c.put.ensures.shows
