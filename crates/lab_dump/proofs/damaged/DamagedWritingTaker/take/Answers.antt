use Rattle.std.proofs.Common.{◌≡◌, ◌∙◌, ◌+◌, ℕ, Option, None, Some, ap, refl, sym, subst}
use Rattle.page_layout.specs.Array.{marks}
use Rattle.page_layout.specs.Page.{page}
use Rattle.page_layout.specs.Sound.{record_of}
use Rattle.page_layout.proofs.ArrayLemmas.{mark-page}
use Rattle.lab_dump.specs.declared.doubting.Doubting.{Doubting}
use Rattle.lab_dump.specs.Damaged.{said_marks, said_reads}
use Rattle.lab_dump.specs.Doubting.{DoubtingStands, IsDoubting}
use Rattle.lab_dump.specs.Said.{says}
use Rattle.lab_dump.specs.Until.{record_until, page_until, until}
use Rattle.lab_dump.specs.Writing.{ShowsDamaged}
use Rattle.lab_dump.proofs.DamagedLemmas.{counted_none, said_mark, said_broken, said_here, sound_silent}
use Rattle.lab_dump.proofs.ScanLemmas.{ok_map, on_ok}
use Rattle.lab_dump.proofs.UntilLemmas.{counted_page, counted_record, counted_was, until_page}
use Rattle.lab_dump.proofs.WritingLemmas.{unmarked_none, nothing_noted}
use Rattle.lab_dump.proofs.damaged.DamagedWritingTaker.take.Goals as goal

pub read_record-found-requires : goal.read_record-found-requires
read_record-found-requires g c = record { body_whole = c.requires.body_whole; spare_whole = c.requires.spare_whole }

pub step-requires : goal.step-requires
step-requires g c = record { row_in = c.requires.row_in; body_whole = c.requires.body_whole; spare_whole = c.requires.spare_whole; found = c.read_record-found.ensures; stands = c.requires.stands.1 }

pub says-said-requires : goal.says-said-requires
says-said-requires g c = record { found = c.read_record-found.ensures; spare_whole = c.requires.spare_whole }

pub take_sound-requires : goal.take_sound-requires
take_sound-requires g c = record {
  row_in = c.requires.row_in;
  looked = sym c.read_record-found.ensures ∙ counted_was c.args.self.now.writing.until c.read_record-found.result c.in-Some.found (sym c.record_until-sound.ensures ∙ c.in-Some.is);
  stands = c.requires.stands.0;
}

pub take_said-requires : goal.take_said-requires
take_said-requires g c =
    let geo = c.args.geometry.now in
    let last = c.args.self.now.writing.until in
    let p = page c.args.areas.body.now c.args.areas.spare.now in
    let some : record_until last (says geo p) ≡ Some c.in-Some-record_until.says = ap (record_until last) (sym c.says-said.ensures) ∙ (sym c.record_until.ensures ∙ c.in-Some-record_until.is) in
    let its = said_broken geo p c.in-Some-record_until.says (counted_was last (says geo p) c.in-Some-record_until.says some) in
    record { row_in = c.requires.row_in; broken = its.0; spelled = its.1; stands = c.requires.stands.0 }

pub returns-in-Some : goal.returns-in-Some
returns-in-Some g c =
    let geo = c.args.geometry.now in
    let last = c.args.self.now.writing.until in
    let p = page c.args.areas.body.now c.args.areas.spare.now in
    let r = c.in-Some.found in
    let after = c.take_sound.new.self in
    let some : record_until last (record_of p) ≡ Some r = ap (record_until last) (sym c.read_record-found.ensures) ∙ (sym c.record_until-sound.ensures ∙ c.in-Some.is) in
    let silent : says geo p ≡ None = sound_silent geo p r (counted_was last (record_of p) r some) in
    record {
      asked = on_ok _ c.take_sound.result refl;
      fixed = on_ok _ c.take_sound.result c.take_sound.ensures.until;
      stands = ok_map _ _ c.take_sound.result (λ stands. (stands, subst (λ (d : Doubting). DoubtingStands geo (c.args.row + 1) d) (sym c.take_sound.ensures.doubting) c.step.ensures.stands)) c.take_sound.ensures.stands;
      stopped = c.take_sound.ensures.failed;
      shows = ok_map _ _ c.take_sound.result (λ h image shown at. (
        subst (λ (u : Option ℕ). ShowsDamaged geo (c.args.row + 1) u image after.held.items (g.T.Pieces.pieces after.target)) (sym c.take_sound.ensures.until)
            (h (until geo last image) (said_marks geo last image) (said_reads geo image) (page_until geo last p) shown.0 (until_page geo last image c.args.row p at) (ap (λ q. q.body) (sym (counted_page geo last p r some))) (counted_record geo last p ∙ some)
            (said_mark geo last image c.args.row p at ∙ (ap (record_until last) silent ∙ counted_none last))),
        subst (λ (d : Doubting). IsDoubting geo (c.args.row + 1) image d) (sym c.take_sound.ensures.doubting) (c.step.ensures.is image shown.1 at),
      )) c.take_sound.ensures.shows;
    }

pub returns-in-Some-record_until : goal.returns-in-Some-record_until
returns-in-Some-record_until g c =
    let geo = c.args.geometry.now in
    let last = c.args.self.now.writing.until in
    let p = page c.args.areas.body.now c.args.areas.spare.now in
    let r = c.in-Some-record_until.says in
    let after = c.take_said.new.self in
    let none : record_until last (record_of p) ≡ None = ap (record_until last) (sym c.read_record-found.ensures) ∙ (sym c.record_until-sound.ensures ∙ c.in_default.is) in
    let some : record_until last (says geo p) ≡ Some r = ap (record_until last) (sym c.says-said.ensures) ∙ (sym c.record_until.ensures ∙ c.in-Some-record_until.is) in
    record {
      asked = on_ok _ c.take_said.result refl;
      fixed = on_ok _ c.take_said.result c.take_said.ensures.until;
      stands = ok_map _ _ c.take_said.result (λ stands. (stands, subst (λ (d : Doubting). DoubtingStands geo (c.args.row + 1) d) (sym c.take_said.ensures.doubting) c.step.ensures.stands)) c.take_said.ensures.stands;
      stopped = c.take_said.ensures.failed;
      shows = ok_map _ _ c.take_said.result (λ h image shown at. (
        subst (λ (u : Option ℕ). ShowsDamaged geo (c.args.row + 1) u image after.held.items (g.T.Pieces.pieces after.target)) (sym c.take_said.ensures.until)
            (h (until geo last image) (said_marks geo last image) (said_reads geo image) shown.0
            (mark-page (until geo last image) c.args.row (page_until geo last p) (until_page geo last image c.args.row p at) ∙ (counted_record geo last p ∙ none))
            (said_mark geo last image c.args.row p at ∙ some) (said_here geo image c.args.row p r at (counted_was last (says geo p) r some))),
        subst (λ (d : Doubting). IsDoubting geo (c.args.row + 1) image d) (sym c.take_said.ensures.doubting) (c.step.ensures.is image shown.1 at),
      )) c.take_said.ensures.shows;
    }

pub returns-in-None : goal.returns-in-None
returns-in-None g c =
    let geo = c.args.geometry.now in
    let last = c.args.self.now.writing.until in
    let p = page c.args.areas.body.now c.args.areas.spare.now in
    let none : record_until last (record_of p) ≡ None = ap (record_until last) (sym c.read_record-found.ensures) ∙ (sym c.record_until-sound.ensures ∙ c.in_default.is) in
    let silent : record_until last (says geo p) ≡ None = ap (record_until last) (sym c.says-said.ensures) ∙ (sym c.record_until.ensures ∙ c.in-None.is) in
    record {
      asked = refl;
      fixed = refl;
      stands = (c.requires.stands.0, c.step.ensures.stands);
      stopped = tt;
      shows = λ image h at. (
        nothing_noted geo c.args.row (until geo last image) (said_marks geo last image) (said_reads geo image) _ _ h.0
            (unmarked_none geo (marks (until geo last image)) c.args.row (mark-page (until geo last image) c.args.row (page_until geo last p) (until_page geo last image c.args.row p at) ∙ (counted_record geo last p ∙ none)))
            (unmarked_none geo (said_marks geo last image) c.args.row (said_mark geo last image c.args.row p at ∙ silent)),
        c.step.ensures.is image h.1 at,
      );
    }
