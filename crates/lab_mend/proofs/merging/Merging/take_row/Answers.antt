use Rattle.std.proofs.Common.{◌∙◌, length, drop, set, ap, arith}
use Rattle.std.specs.Prelude.{option_map}
use Rattle.std.proofs.lemmas.List.{take_at}
use Rattle.lab_mend.specs.Pages.{pages_in}
use Rattle.lab_mend.proofs.MergingLemmas.{room_named, room_tried, room_unsound, stands_next, shows_next, tried_next, tried_listed_next, unsound_next, unsound_listed_next}
use Rattle.lab_mend.proofs.merging.Merging.take_row.Goals as goal

pub returns-in-Ok : goal.returns-in-Ok
returns-in-Ok g c = record {
  stands =
      let geo = c.args.geometry.now in
      let s = c.args.self.now in
      let out = c.choose-origin.new.out in
      let back = take_at out (drop (length out) s.scratch.items) s.scratch.len (omega arith) in
      stands_next geo c.args.row s.conflicts.items s.tally (pages_in geo c.args.pages.now c.args.count) c.choose-origin.result s.scratch.items out (g.T.Pieces.pieces s.target) c.requires.row_in c.requires.stands (omega arith)
      c.choose-origin.ensures.writes _ _ _ _ c.name_conflict.ensures.named c.count-self.ensures back (c.in-Ok.ensures.written ∙ ap (λ bytes. option_map (λ ps. set ps c.args.row bytes) (g.T.Pieces.pieces s.target)) c.deref.ensures.value);
  shows = λ rows are shown.
      let geo = c.args.geometry.now in
      let s = c.args.self.now in
      let out = c.choose-origin.new.out in
      let back = take_at out (drop (length out) s.scratch.items) s.scratch.len (omega arith) in
      shows_next geo rows c.args.row s.conflicts.items s.tally (pages_in geo c.args.pages.now c.args.count) c.choose-origin.result s.scratch.items out (g.T.Pieces.pieces s.target) c.requires.row_in c.requires.stands shown are
      c.choose-origin.ensures.writes _ _ _ _ c.name_conflict.ensures.named c.count-self.ensures back (c.in-Ok.ensures.written ∙ ap (λ bytes. option_map (λ ps. set ps c.args.row bytes) (g.T.Pieces.pieces s.target)) c.deref.ensures.value);
  unsound = λ rows are before.
      unsound_next c.args.geometry.now rows c.args.row (pages_in c.args.geometry.now c.args.pages.now c.args.count) c.choose-origin.result c.args.self.now.unsound.items _ c.choose-origin.new.out are c.choose-origin.ensures.writes before c.name_unsound.ensures.named;
  listed = λ before. unsound_listed_next c.args.row c.args.self.now.unsound.items _ c.choose-origin.result c.name_unsound.ensures.named before;
  conflicts_room = room_named _ c.args.row c.args.self.now.conflicts.items _ c.choose-origin.result _ _ c.requires.conflicts_room c.name_conflict.ensures.named c.name_conflict.ensures.room;
  unsound_room = room_unsound _ c.args.row c.args.self.now.unsound.items _ c.choose-origin.result _ _ c.requires.unsound_room c.name_unsound.ensures.named c.name_unsound.ensures.room;
  tried = λ rows are before.
      tried_next c.args.geometry.now rows c.args.row (pages_in c.args.geometry.now c.args.pages.now c.args.count) c.choose-origin.result c.args.self.now.tried.items _ c.choose-origin.new.out are c.choose-origin.ensures.writes before c.name_tried.ensures.named;
  tried_listed = λ before. tried_listed_next c.args.row c.args.self.now.tried.items _ c.choose-origin.result c.name_tried.ensures.named before;
  tried_room = room_tried _ c.args.row c.args.self.now.tried.items _ c.choose-origin.result _ _ c.requires.tried_room c.name_tried.ensures.named c.name_tried.ensures.room;
  room = c.choose-origin.ensures.room;
  failed = tt;
}

pub returns-in-Err : goal.returns-in-Err
returns-in-Err g c = record {
  conflicts_room = room_named _ c.args.row c.args.self.now.conflicts.items _ c.choose-origin.result _ _ c.requires.conflicts_room c.name_conflict.ensures.named c.name_conflict.ensures.room;
  unsound_room = room_unsound _ c.args.row c.args.self.now.unsound.items _ c.choose-origin.result _ _ c.requires.unsound_room c.name_unsound.ensures.named c.name_unsound.ensures.room;
  tried_room = room_tried _ c.args.row c.args.self.now.tried.items _ c.choose-origin.result _ _ c.requires.tried_room c.name_tried.ensures.named c.name_tried.ensures.room;
  room = c.choose-origin.ensures.room;
  failed = c.in-Err.ensures.failed;
  stands = tt;
  unsound = tt;
  listed = tt;
  tried = tt;
  tried_listed = tt;
  shows = tt;
}
