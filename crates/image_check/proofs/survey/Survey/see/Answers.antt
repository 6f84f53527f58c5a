use Rattle.std.proofs.Common.{◌≡◌, ◌+◌, sym, ◌∙◌, refl, None, get_or, ap, length, rules}
use Rattle.std.specs.Vec.{with_items}
use Rattle.std.proofs.lemmas.List.{with_items_is}
use Rattle.page_layout.specs.Page.{page}
use Rattle.page_layout.specs.Array.{marks}
use Rattle.page_layout.proofs.ArrayLemmas.{mark-page}
use Rattle.image_check.specs.Survey.{HasNewest}
use Rattle.image_check.proofs.SurveyLemmas.{pairs_more}
use Rattle.image_check.proofs.survey.Survey.see.Goals as goal

pub returns-clause-survey : goal.returns-clause-survey
returns-clause-survey c = λ image h at.
    let p = page c.args.body.now c.args.spare.now in
    let g = c.args.self.now.geometry in
    let ms = marks image in
    let read = c.read_record-found.ensures in
    let mark : get_or ms c.args.row None ≡ c.read_record-found.result = mark-page image c.args.row p at ∙ sym read in
    let newest : HasNewest g ms (c.args.row + 1) c.note_newest.new.newest = c.note_newest.ensures.newest ms (rw c.deref_mut.ensures.value h.newest) mark in
    let newest_is : (with_items c.args.self.now.newest c.note_newest.new.newest).items ≡ c.note_newest.new.newest = with_items_is c.args.self.now.newest c.note_newest.new.newest (c.note_newest.auto.newest ∙ c.deref_mut.ensures.len) in
    let looks_is : (with_items c.args.self.now.looks c.note_look.new.looks).items ≡ c.note_look.new.looks = with_items_is c.args.self.now.looks c.note_look.new.looks (c.note_look.auto.looks ∙ c.deref_mut-2.ensures.len) in
    let tables_is : (with_items c.args.self.now.tables c.note_table.new.tables).items ≡ c.note_table.new.tables = with_items_is c.args.self.now.tables c.note_table.new.tables (c.note_table.auto.tables ∙ c.deref_mut-3.ensures.len) in
    record {
      newest = rw newest_is newest;
      outside = c.note_number-self.ensures ms h.outside mark;
      pairs = pairs_more ms c.args.row c.args.self.now.pairs.items _ c.read_record-found.result h.pairs mark c.note_sequence.ensures.items;
      looks = rw looks_is (c.note_look.ensures.looks image p (rw c.deref_mut-2.ensures.value h.looks) at c.is_erased-erased.ensures read);
      tables = rw tables_is (c.note_table.ensures image p (rw c.deref_mut-3.ensures.value h.tables) (rw c.deref.ensures.value (rw newest_is newest)) at read refl);
    }

pub returns-clause-found : goal.returns-clause-found
returns-clause-found c = c.read_record-found.ensures

pub returns-clause-sized : goal.returns-clause-sized
returns-clause-sized c =
    let sized = c.requires.sized in
    let newest_is : (with_items c.args.self.now.newest c.note_newest.new.newest).items ≡ c.note_newest.new.newest = with_items_is c.args.self.now.newest c.note_newest.new.newest (c.note_newest.auto.newest ∙ c.deref_mut.ensures.len) in
    let looks_is : (with_items c.args.self.now.looks c.note_look.new.looks).items ≡ c.note_look.new.looks = with_items_is c.args.self.now.looks c.note_look.new.looks (c.note_look.auto.looks ∙ c.deref_mut-2.ensures.len) in
    let tables_is : (with_items c.args.self.now.tables c.note_table.new.tables).items ≡ c.note_table.new.tables = with_items_is c.args.self.now.tables c.note_table.new.tables (c.note_table.auto.tables ∙ c.deref_mut-3.ensures.len) in
    record {
      geometry_is = refl;
      newest = ap length newest_is ∙ (c.note_newest.auto.newest ∙ (ap length c.deref_mut.ensures.value ∙ sized.newest));
      within = rw newest_is c.note_newest.ensures.within;
      looks = ap length looks_is ∙ (c.note_look.auto.looks ∙ (ap length c.deref_mut-2.ensures.value ∙ sized.looks));
      bounded = rw looks_is c.note_look.ensures.bounded;
      tables = ap length tables_is ∙ (c.note_table.auto.tables ∙ (ap length c.deref_mut-3.ensures.value ∙ sized.tables));
      few = search rules;
      room = search rules;
    }

pub note_newest-requires : goal.note_newest-requires
note_newest-requires c = record {
  row_in = c.requires.row_in;
  size = ap length c.deref_mut.ensures.value ∙ c.requires.sized.newest;
  within = rw c.deref_mut.ensures.value c.requires.sized.within;
}

pub note_look-requires : goal.note_look-requires
note_look-requires c = record {
  row_in = c.requires.row_in;
  size = ap length c.deref_mut-2.ensures.value ∙ c.requires.sized.looks;
  bounded = rw c.deref_mut-2.ensures.value c.requires.sized.bounded;
}

pub note_table-requires : goal.note_table-requires
note_table-requires c =
    let sized = c.requires.sized in
    let newest_is : (with_items c.args.self.now.newest c.note_newest.new.newest).items ≡ c.note_newest.new.newest = with_items_is c.args.self.now.newest c.note_newest.new.newest (c.note_newest.auto.newest ∙ c.deref_mut.ensures.len) in
    record {
      size = ap length c.deref_mut-3.ensures.value ∙ sized.tables;
      newest_size = ap length (c.deref.ensures.value ∙ newest_is) ∙ (c.note_newest.auto.newest ∙ (ap length c.deref_mut.ensures.value ∙ sized.newest));
      body_whole = c.requires.body_whole;
    }
