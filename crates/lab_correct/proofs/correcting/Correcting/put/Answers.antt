use Rattle.std.proofs.Common.{◌∙◌, ap, set, arith}
use Rattle.std.specs.Prelude.{option_map}
use Rattle.lab_correct.proofs.ChipLemmas.{few_rows}
use Rattle.lab_correct.proofs.TakenLemmas.{stands_put, shows_put}
use Rattle.lab_correct.proofs.correcting.Correcting.put.Goals as goal

pub note-requires-clause-turned : goal.note-requires-clause-turned
note-requires-clause-turned g c =
    let few = c.requires.stands.few_turned in
    let within = c.requires.row_in in
    let most = few_rows c.args.chip.now in
    let here = c.requires.few in
    omega arith

pub note-requires-clause-touched : goal.note-requires-clause-touched
note-requires-clause-touched g c =
    let few = c.requires.stands.few_touched in
    let within = c.requires.row_in in
    let most = few_rows c.args.chip.now in
    omega arith

pub note-requires-clause-room : goal.note-requires-clause-room
note-requires-clause-room g c =
    let few = c.requires.stands.few_losses in
    let within = c.requires.row_in in
    let room = c.requires.stands.room in
    omega arith

pub returns-in-Ok-clause-stands : goal.returns-in-Ok-clause-stands
returns-in-Ok-clause-stands g c = λ r sizes made.
    let s = c.args.self.now in
    let n = c.note.new.self in
    let e = c.note.ensures in
    stands_put s.geometry n.geometry c.args.chip.now c.args.row r s.scratch.items n.scratch.items c.deref.result.now s.turned s.touched s.losses.items n.turned n.touched n.losses.items _ _ c.args.tally.turned c.args.tally.lost (g.T.Pieces.pieces s.target) _
    e.geometry (ap (λ v. v.items) e.scratch) (c.in-Ok.ensures.written ∙ ap (λ t. option_map (λ ps. set ps c.args.row c.deref.result.now) (g.T.Pieces.pieces t)) e.target) c.deref.ensures.value
    c.requires.row_in c.requires.few sizes e.room e.turned e.touched e.losses made c.requires.stands

pub returns-in-Ok-clause-shows : goal.returns-in-Ok-clause-shows
returns-in-Ok-clause-shows g c = λ image r shown at made.
    let s = c.args.self.now in
    let n = c.note.new.self in
    let e = c.note.ensures in
    shows_put s.geometry n.geometry c.args.chip.now c.args.row image r s.scratch.items n.scratch.items c.deref.result.now s.turned s.touched s.losses.items n.turned n.touched n.losses.items c.args.tally.turned c.args.tally.lost (g.T.Pieces.pieces s.target) _
    e.geometry (ap (λ v. v.items) e.scratch) (c.in-Ok.ensures.written ∙ ap (λ t. option_map (λ ps. set ps c.args.row c.deref.result.now) (g.T.Pieces.pieces t)) e.target) c.deref.ensures.value
    c.requires.row_in c.requires.stands.sized e.turned e.touched e.losses made shown at
