use Rattle.std.proofs.Common.{◌+◌, ◌/◌, length, get_or, [], ap, sym, subst, ◌∙◌}
use Rattle.page_layout.specs.declared.record.Key.TheVariants.{Table}
use Rattle.page_layout.specs.Live.{IsKeyOf}
use Rattle.page_layout.specs.Array.{marks}
use Rattle.page_layout.specs.Newest.{latest_below}
use Rattle.image_check.proofs.TellLemmas.{tells_place}
use Rattle.image_check.proofs.SurveyLemmas.{newest_at}
use Rattle.image_check.proofs.TableLemmas.{none_unsound, none_other, none_beside}
use Rattle.lab_dump.proofs.KeyLemmas.{formed_stays, formed_old, formed_new, formed_says}
use Rattle.lab_dump.proofs.keys.note_formed.Goals as goal

pub returns-in_default : goal.returns-in_default
returns-in_default c = record {
  formed = λ image p h n is e b. formed_stays c.args.geometry.now image c.args.row c.args.formed.now h (λ u k. none_unsound image c.args.row p is (sym c.in_default.is ∙ e) u);
  table = c.requires.table;
}

pub returns-in_default-key : goal.returns-in_default-key
returns-in_default-key c = record {
  formed = λ image p h n is e b. formed_stays c.args.geometry.now image c.args.row c.args.formed.now h (λ u k. none_other image c.args.row p c.in-Some.found c.key-key.result is (sym c.in-Some.is ∙ e) c.key-key.ensures u (λ x. c.in_default-key.not-Table u x));
  table = c.requires.table;
}

pub returns-in_default-index_of : goal.returns-in_default-index_of
returns-in_default-index_of c = record {
  formed = λ image p h n is e b.
      let g = c.args.geometry.now in
      formed_stays g image c.args.row c.args.formed.now h (λ u k. none_other image c.args.row p c.in-Some.found c.key-key.result is (sym c.in-Some.is ∙ e) c.key-key.ensures u (λ x. c.in_default-index_of.ensures (subst (λ y. IsKeyOf g y) (sym x ∙ c.in-Table.is) k)));
  table = c.requires.table;
}

pub returns-then-is_at : goal.returns-then-is_at
returns-then-is_at c = record {
  formed = λ image p h n is e b.
      let g = c.args.geometry.now in
      let v = c.in-Table.number in
      let at = newest_at g (marks image) (c.args.row + 1) c.in-Some-index_of.index c.args.newest.now (Table v) (record { row = 0; sequence = [] }) n c.in-Some-index_of.ensures.0 c.in-Some-index_of.ensures.1 in
      let told = tells_place (get_or c.args.newest.now c.in-Some-index_of.index (record { row = 0; sequence = [] })) (latest_below (marks image) (Table v) (c.args.row + 1)) at in
      formed_new g image c.args.row v c.args.formed.now c.is_well_formed.result h c.in-Some-index_of.ensures.0
      (none_beside image c.args.row p c.in-Some.found c.key-key.result v is (sym c.in-Some.is ∙ e) c.key-key.ensures c.in-Table.is)
      (sym told ∙ c.is_at.ensures.yes c.if-is_at.true)
      (formed_says g image c.args.row v (length c.args.body.now / 4) (length c.args.table.now) c.args.body.now p c.is_well_formed.result c.is_well_formed.ensures.formed (ap (λ k. k / 4) c.requires.body_whole) c.requires.table b is);
  table = c.is_well_formed.ensures.size ∙ c.requires.table;
}

pub returns-else-is_at : goal.returns-else-is_at
returns-else-is_at c = record {
  formed = λ image p h n is e b.
      let g = c.args.geometry.now in
      let v = c.in-Table.number in
      let at = newest_at g (marks image) (c.args.row + 1) c.in-Some-index_of.index c.args.newest.now (Table v) (record { row = 0; sequence = [] }) n c.in-Some-index_of.ensures.0 c.in-Some-index_of.ensures.1 in
      let told = tells_place (get_or c.args.newest.now c.in-Some-index_of.index (record { row = 0; sequence = [] })) (latest_below (marks image) (Table v) (c.args.row + 1)) at in
      formed_old g image c.args.row v c.args.formed.now h
      (none_beside image c.args.row p c.in-Some.found c.key-key.result v is (sym c.in-Some.is ∙ e) c.key-key.ensures c.in-Table.is)
      (λ x. c.is_at.ensures.no c.if-is_at.false (told ∙ x));
  table = c.requires.table;
}
