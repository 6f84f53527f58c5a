use Rattle.std.proofs.Common.{◌∙◌, List, ℕ, Option, refl, sym, ap, subst, set, ◌+◌}
use Rattle.std.specs.Prelude.{option_map}
use Rattle.lab_mend.specs.declared.repairing.Mend.{Mend}
use Rattle.lab_mend.specs.Repairing.{mends_with_row, RepairingStands, ShowsRepair}
use Rattle.lab_mend.proofs.RepairingLemmas.{room_more, stands_more, shows_more}
use Rattle.lab_mend.proofs.repairing.Repairing.write.Goals as goal

pub returns-in-Ok : goal.returns-in-Ok
returns-in-Ok g c = record {
  stands =
      let geo = c.args.geometry.now in
      let row = c.args.row in
      let s = c.args.self.now in
      let pieces = g.T.Pieces.pieces s.target in
      let more = stands_more geo s.asked row s.mends.items c.args.turn s.scratch.items pieces c.requires.row_in c.requires.stands c.requires.own in
      let P : List Mend → Type 0 = λ ms. RepairingStands geo s.asked (row + 1) ms s.scratch.items (option_map (λ ps. set ps row s.scratch.items) pieces) in
      let Q : Option (List (List ℕ)) → Type 0 = λ ps. RepairingStands geo s.asked (row + 1) c.list_mend.new.mends.items s.scratch.items ps in
      subst Q (sym (c.in-Ok.ensures.written ∙ ap (λ bytes. option_map (λ ps. set ps row bytes) pieces) c.deref.ensures.value)) (subst P (sym c.list_mend.ensures.noted) more);
  shows = λ image p shown at bit scratch.
      let geo = c.args.geometry.now in
      let row = c.args.row in
      let s = c.args.self.now in
      let pieces = g.T.Pieces.pieces s.target in
      let more = shows_more geo s.asked row image p s.mends.items s.scratch.items pieces c.requires.row_in c.requires.stands shown at scratch in
      let P : List Mend → Type 0 = λ ms. ShowsRepair s.asked (row + 1) image ms (option_map (λ ps. set ps row s.scratch.items) pieces) in
      let Q : Option (List (List ℕ)) → Type 0 = λ ps. ShowsRepair s.asked (row + 1) image c.list_mend.new.mends.items ps in
      subst Q (sym (c.in-Ok.ensures.written ∙ ap (λ bytes. option_map (λ ps. set ps row bytes) pieces) c.deref.ensures.value))
      (subst P (ap (mends_with_row s.mends.items row) (sym bit) ∙ sym c.list_mend.ensures.noted) more);
  room = room_more _ c.args.row c.args.self.now.mends.items _ c.args.turn _ _ c.requires.room c.list_mend.ensures.noted c.list_mend.ensures.room;
  asked = refl;
  failed = tt;
}

pub returns-in-Err : goal.returns-in-Err
returns-in-Err g c = record {
  room = room_more _ c.args.row c.args.self.now.mends.items _ c.args.turn _ _ c.requires.room c.list_mend.ensures.noted c.list_mend.ensures.room;
  asked = refl;
  failed = c.in-Err.ensures.failed;
  stands = tt;
  shows = tt;
}
