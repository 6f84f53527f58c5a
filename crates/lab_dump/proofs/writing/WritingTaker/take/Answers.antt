use Rattle.std.proofs.Common.{◌≡◌, ◌∙◌, ◌+◌, ℕ, [], Option, None, Some, ap, refl, sym, subst}
use Rattle.page_layout.specs.Array.{marks}
use Rattle.page_layout.proofs.ArrayLemmas.{mark-page}
use Rattle.page_layout.specs.Page.{page}
use Rattle.page_layout.specs.Sound.{record_of}
use Rattle.lab_dump.specs.declared.doubting.Doubting.{Doubting}
use Rattle.lab_dump.specs.Doubting.{DoubtingStands, IsDoubting}
use Rattle.lab_dump.specs.Until.{record_until, page_until, until}
use Rattle.lab_dump.specs.Writing.{ShowsSound}
use Rattle.lab_dump.proofs.ScanLemmas.{ok_map, on_ok}
use Rattle.lab_dump.proofs.UntilLemmas.{counted_page, counted_record, counted_was, until_page}
use Rattle.lab_dump.proofs.WritingLemmas.{unmarked_none, nothing_noted}
use Rattle.lab_dump.proofs.writing.WritingTaker.take.Goals as goal

pub read_record-found-requires : goal.read_record-found-requires
read_record-found-requires g c = record { body_whole = c.requires.body_whole; spare_whole = c.requires.spare_whole }

pub step-requires : goal.step-requires
step-requires g c = record { row_in = c.requires.row_in; body_whole = c.requires.body_whole; spare_whole = c.requires.spare_whole; found = c.read_record-found.ensures; stands = c.requires.stands.1 }

pub returns-in-None : goal.returns-in-None
returns-in-None g c =
    let geo = c.args.geometry.now in
    let last = c.args.self.now.until in
    let p = page c.args.areas.body.now c.args.areas.spare.now in
    let none : record_until last (record_of p) ≡ None = ap (record_until last) (sym c.read_record-found.ensures) ∙ (sym c.record_until.ensures ∙ c.in-None.is) in
    record {
      asked = refl;
      fixed = refl;
      stands = (c.requires.stands.0, c.step.ensures.stands);
      stopped = tt;
      shows = λ image h at. (
        nothing_noted geo c.args.row (until geo last image) _ _ _ _ h.0
            (unmarked_none geo (marks (until geo last image)) c.args.row
            (mark-page (until geo last image) c.args.row (page_until geo last p) (until_page geo last image c.args.row p at)
            ∙ (counted_record geo last p ∙ none))) (unmarked_none geo [] c.args.row refl),
        c.step.ensures.is image h.1 at,
      );
    }

pub take_sound-requires : goal.take_sound-requires
take_sound-requires g c = record {
  row_in = c.requires.row_in;
  looked = sym c.read_record-found.ensures ∙ counted_was c.args.self.now.until c.read_record-found.result c.in-Some.found (sym c.record_until.ensures ∙ c.in-Some.is);
  stands = c.requires.stands.0;
}

pub returns-in-Some : goal.returns-in-Some
returns-in-Some g c =
    let geo = c.args.geometry.now in
    let last = c.args.self.now.until in
    let p = page c.args.areas.body.now c.args.areas.spare.now in
    let r = c.in-Some.found in
    let after = c.take_sound.new.self in
    let some : record_until last (record_of p) ≡ Some r = ap (record_until last) (sym c.read_record-found.ensures) ∙ (sym c.record_until.ensures ∙ c.in-Some.is) in
    record {
      asked = on_ok _ c.take_sound.result refl;
      fixed = on_ok _ c.take_sound.result c.take_sound.ensures.until;
      stands = ok_map _ _ c.take_sound.result (λ stands. (stands, subst (λ (d : Doubting). DoubtingStands geo (c.args.row + 1) d) (sym c.take_sound.ensures.doubting) c.step.ensures.stands)) c.take_sound.ensures.stands;
      stopped = c.take_sound.ensures.failed;
      shows = ok_map _ _ c.take_sound.result (λ h image shown at. (
        subst (λ (u : Option ℕ). ShowsSound geo (c.args.row + 1) (until geo u image) after.held.items (g.T.Pieces.pieces after.target)) (sym c.take_sound.ensures.until)
            (h (until geo last image) [] (λ row. []) (page_until geo last p) shown.0 (until_page geo last image c.args.row p at) (ap (λ q. q.body) (sym (counted_page geo last p r some))) (counted_record geo last p ∙ some) refl),
        subst (λ (d : Doubting). IsDoubting geo (c.args.row + 1) image d) (sym c.take_sound.ensures.doubting) (c.step.ensures.is image shown.1 at),
      )) c.take_sound.ensures.shows;
    }
