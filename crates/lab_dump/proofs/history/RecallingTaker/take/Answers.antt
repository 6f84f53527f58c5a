use Rattle.std.proofs.Common.{◌≡◌, ◌∙◌, ◌+◌, ◌&&◌, ℕ, None, Some, true, false, not, ap, refl, sym, subst, append-nil}
use Rattle.std.specs.Prelude.{is_some}
use Rattle.page_layout.specs.Block.{is_broken}
use Rattle.page_layout.specs.Page.{page}
use Rattle.page_layout.specs.Sound.{record_of}
use Rattle.lab_dump.specs.History.{ShowsHistory}
use Rattle.lab_dump.proofs.HistoryLemmas.{one_unsound, pages_noted, room_more, room_same, same_unsound, unsound_more, unsound_same}
use Rattle.lab_dump.proofs.WritingLemmas.{sound_whole}
use Rattle.lab_dump.proofs.history.RecallingTaker.take.Goals as goal

pub read_record-requires : goal.read_record-requires
read_record-requires c = record { body_whole = c.requires.body_whole; spare_whole = c.requires.spare_whole }

pub returns-in-Some : goal.returns-in-Some
returns-in-Some c = record {
  asked = refl;
  fixed = ap Some c.note.ensures.sector;
  stands = (room_more _ _ _ _ _ _ c.requires.stands.0 c.note.ensures.few c.note.ensures.room, same_unsound _ _ _ c.requires.stands.1 c.note.ensures.unsound);
  stopped = tt;
  shows = λ image shown at.
      let row = c.args.row in
      let p = page c.args.areas.body.now c.args.areas.spare.now in
      let after = c.note.new.self in
      let says : record_of p ≡ Some c.in-Some.found = sym c.read_record.ensures ∙ c.in-Some.is in
      subst (λ (n : ℕ). ShowsHistory n (row + 1) image after.pages.items after.unsound) (sym c.note.ensures.sector) (record {
        pages_are = pages_noted image c.args.self.now.sector row p (Some c.in-Some.found) c.args.self.now.pages.items after.pages.items at says shown.pages_are c.note.ensures.noted;
        unsound_is = c.note.ensures.unsound ∙ unsound_same image row p c.args.self.now.unsound at (sound_whole p c.in-Some.found says) shown.unsound_is;
      });
}

pub returns-in-None : goal.returns-in-None
returns-in-None c = record {
  asked = refl;
  fixed = refl;
  stands = (room_same _ _ _ _ c.requires.stands.0, same_unsound _ _ _ c.requires.stands.1 refl);
  stopped = tt;
  shows = λ image shown at.
      let row = c.args.row in
      let p = page c.args.areas.body.now c.args.areas.spare.now in
      let pages = c.args.self.now.pages.items in
      let says : record_of p ≡ None = sym c.read_record.ensures ∙ c.in-None.is in
      let whole : is_broken p ≡ false = ap (λ b. not b && not (is_some (record_of p))) (sym c.is_erased.ensures ∙ c.if-is_erased.true) in
      record {
        pages_are = pages_noted image c.args.self.now.sector row p None pages pages at says shown.pages_are (sym (append-nil pages));
        unsound_is = unsound_same image row p c.args.self.now.unsound at whole shown.unsound_is;
      };
}

pub returns-in-None-2 : goal.returns-in-None-2
returns-in-None-2 c = record {
  asked = refl;
  fixed = refl;
  stands = (room_same _ _ _ _ c.requires.stands.0, one_unsound _ _ c.requires.stands.1);
  stopped = tt;
  shows = λ image shown at.
      let row = c.args.row in
      let p = page c.args.areas.body.now c.args.areas.spare.now in
      let pages = c.args.self.now.pages.items in
      let says : record_of p ≡ None = sym c.read_record.ensures ∙ c.in-None-2.is in
      let broken : is_broken p ≡ true = ap (λ b. not b && not (is_some (record_of p))) (sym c.is_erased.ensures ∙ c.if-is_erased.false) ∙ ap (λ found. not (is_some found)) says in
      record {
        pages_are = pages_noted image c.args.self.now.sector row p None pages pages at says shown.pages_are (sym (append-nil pages));
        unsound_is = unsound_more image row p c.args.self.now.unsound at broken shown.unsound_is;
      };
}
