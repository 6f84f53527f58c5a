use Rattle.std.proofs.Common.{◌∙◌, refl, sym, ap, subst, ◌+◌, set}
use Rattle.page_layout.specs.Array.{content_of_kind, zeros}
use Rattle.page_layout.proofs.ArrayLemmas.{mark-page}
use Rattle.lab_dump.specs.Held.{pieces_after}
use Rattle.lab_dump.specs.Writing.{ShowsSectorPieces}
use Rattle.lab_dump.proofs.WritingLemmas.{other_none, unmarked_none, nothing_noted, sound_noted, holds, stands_after, within_is}
use Rattle.lab_dump.proofs.writing.Writing.take_sound.Goals as goal

pub returns-in_default : goal.returns-in_default
returns-in_default g c = record {
  shows = λ image said reads p shown at body says unsaid.
      let geo = c.args.geometry.now in
      nothing_noted geo c.args.row image said reads _ _ shown (other_none geo _ c.args.row c.args.found.now (mark-page image c.args.row p at ∙ says) (sym c.sector_in.ensures ∙ c.in_default.is)) (unmarked_none geo said c.args.row unsaid);
  stands = c.requires.stands;
  until = refl;
  doubting = refl;
  failed = tt;
}

pub returns-in-Ok : goal.returns-in-Ok
returns-in-Ok g c = record {
  stands =
      stands_after c.args.geometry.now _ c.step-held.result.0 c.step-held.result.1 c.in-Some.sector _ (content_of_kind c.args.geometry.now c.args.found.now.kind c.args.body.now) _ _ c.requires.stands c.in-Ok.ensures.written;
  shows = λ image said reads p shown at body says unsaid.
      let geo = c.args.geometry.now in
      let n = c.in-Some.sector in
      let stands = c.requires.stands in
      let found = c.args.found.now in
      let its = within_is geo found n (sym c.sector_in.ensures ∙ c.in-Some.is) in
      let change = c.step-held.result.1 in
      let pieces = g.T.Pieces.pieces c.args.self.now.target in
      let noted = sound_noted geo c.args.row image said reads c.args.self.now.held.items pieces p found n c.index.result.now c.step-held.result.0 change shown stands.sized stands.size its.1 at says its.0 unsaid c.index.ensures c.step-held.ensures.tells c.step-held.ensures.moves in
      subst (λ ps. ShowsSectorPieces geo (c.args.row + 1) image said reads (set c.args.self.now.held.items n c.step-held.result.0) ps)
      (ap (λ xs. pieces_after change n (content_of_kind geo found.kind xs) (zeros geo) pieces) (sym body) ∙ sym c.in-Ok.ensures.written) noted;
  until = refl;
  doubting = refl;
  failed = tt;
}

pub put_change-requires : goal.put_change-requires
put_change-requires g c = record {
  blank = c.deref.ensures.value ∙ c.requires.stands.blank_is;
  sound = λ is.
      let its = within_is c.args.geometry.now c.args.found.now c.in-Some.sector (sym c.sector_in.ensures ∙ c.in-Some.is) in
      holds c.in-Some.sector c.args.body.now c.args.spare.now c.args.found.now c.requires.looked its.0 is;
}

pub returns-in-Err : goal.returns-in-Err
returns-in-Err g c = record { stands = tt; shows = tt; until = refl; doubting = refl; failed = c.in-Err.ensures.failed }
