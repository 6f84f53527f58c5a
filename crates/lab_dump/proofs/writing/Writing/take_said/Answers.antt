use Rattle.std.proofs.Common.{◌∙◌, refl, sym, subst, ◌+◌, set}
use Rattle.page_layout.specs.Array.{content_of_kind}
use Rattle.lab_dump.specs.Writing.{ShowsSectorPieces}
use Rattle.lab_dump.proofs.WritingLemmas.{other_none, unmarked_none, nothing_noted, said_noted, says_sector, stands_after, within_is}
use Rattle.lab_dump.proofs.writing.Writing.take_said.Goals as goal

pub returns-in_default : goal.returns-in_default
returns-in_default g c = record {
  shows = λ image said reads shown unmarked mark here.
      let geo = c.args.geometry.now in
      nothing_noted geo c.args.row image said reads _ _ shown (unmarked_none geo _ c.args.row unmarked) (other_none geo said c.args.row c.args.says.now mark (sym c.sector_in.ensures ∙ c.in_default.is));
  stands = c.requires.stands;
  until = refl;
  doubting = refl;
  failed = tt;
}

pub returns-in-Ok : goal.returns-in-Ok
returns-in-Ok g c = record {
  stands =
      stands_after c.args.geometry.now _ c.step_said-held.result.0 c.step_said-held.result.1 c.in-Some.sector _ (content_of_kind c.args.geometry.now c.args.says.now.kind c.args.body.now) _ _ c.requires.stands c.in-Ok.ensures.written;
  shows = λ image said reads shown unmarked mark here.
      let geo = c.args.geometry.now in
      let n = c.in-Some.sector in
      let stands = c.requires.stands in
      let says = c.args.says.now in
      let its = within_is geo says n (sym c.sector_in.ensures ∙ c.in-Some.is) in
      let change = c.step_said-held.result.1 in
      let pieces = g.T.Pieces.pieces c.args.self.now.target in
      let noted = said_noted geo c.args.row image said reads c.args.self.now.held.items pieces says (content_of_kind geo says.kind c.args.body.now) n
      c.index.result.now c.step_said-held.result.0 change shown stands.sized stands.size its.1 unmarked mark its.0 here c.index.ensures
      c.step_said-held.ensures.tells c.step_said-held.ensures.moves in
      subst (λ ps. ShowsSectorPieces geo (c.args.row + 1) image said reads (set c.args.self.now.held.items n c.step_said-held.result.0) ps) (sym c.in-Ok.ensures.written) noted;
  until = refl;
  doubting = refl;
  failed = tt;
}

pub put_said-requires : goal.put_said-requires
put_said-requires g c = record {
  blank = c.deref.ensures.value ∙ c.requires.stands.blank_is;
  says = λ is.
      let its = within_is c.args.geometry.now c.args.says.now c.in-Some.sector (sym c.sector_in.ensures ∙ c.in-Some.is) in
      says_sector c.in-Some.sector c.args.body.now c.args.spare.now c.args.says.now c.requires.broken c.requires.spelled its.0 is;
}

pub returns-in-Err : goal.returns-in-Err
returns-in-Err g c = record { stands = tt; shows = tt; until = refl; doubting = refl; failed = c.in-Err.ensures.failed }
