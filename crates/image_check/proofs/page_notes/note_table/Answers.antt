use Rattle.std.proofs.Common.{◌+◌, [], length, get_or, ap, sym, subst, ◌∙◌}
use Rattle.page_layout.specs.declared.record.Key.TheVariants.{Table}
use Rattle.page_layout.specs.Live.{IsKeyOf}
use Rattle.page_layout.specs.Array.{marks}
use Rattle.page_layout.specs.Newest.{latest_below}
use Rattle.image_check.proofs.TellLemmas.{tells_place}
use Rattle.image_check.proofs.SurveyLemmas.{newest_at}
use Rattle.image_check.proofs.TableLemmas.{table_stays, table_old, table_new, none_unsound, none_other, none_beside}
use Rattle.image_check.proofs.page_notes.note_table.Goals as goal

pub returns-in_default : goal.returns-in_default
returns-in_default c = λ image p h n is e b. table_stays c.args.geometry.now image c.args.row c.args.tables.now h (λ u k. none_unsound image c.args.row p is (sym c.in_default.is ∙ e) u)

pub returns-in_default-key : goal.returns-in_default-key
returns-in_default-key c = λ image p h n is e b. table_stays c.args.geometry.now image c.args.row c.args.tables.now h (λ u k. none_other image c.args.row p c.in-Some.found c.key-key.result is (sym c.in-Some.is ∙ e) c.key-key.ensures u (λ x. c.in_default-key.not-Table u x))

pub returns-in_default-index_of : goal.returns-in_default-index_of
returns-in_default-index_of c = λ image p h n is e b.
    let g = c.args.geometry.now in
    table_stays g image c.args.row c.args.tables.now h (λ u k. none_other image c.args.row p c.in-Some.found c.key-key.result is (sym c.in-Some.is ∙ e) c.key-key.ensures u (λ x. c.in_default-index_of.ensures (subst (λ y. IsKeyOf g y) (sym x ∙ c.in-Table.is) k)))

pub returns-then-same_row : goal.returns-then-same_row
returns-then-same_row c = λ image p h n is e b.
    let g = c.args.geometry.now in
    let v = c.in-Table.number in
    let at = newest_at g (marks image) (c.args.row + 1) c.in-Some-index_of.index c.args.newest.now (Table v) (record { row = 0; sequence = [] }) n c.in-Some-index_of.ensures.0 c.in-Some-index_of.ensures.1 in
    let told = tells_place (get_or c.args.newest.now c.in-Some-index_of.index (record { row = 0; sequence = [] })) (latest_below (marks image) (Table v) (c.args.row + 1)) at in
    rw c.data_bytes-data_bytes.ensures (
    table_new g image c.args.row v c.args.tables.now c.copy_from_slice.new.self p h c.in-Some-index_of.ensures.0
    (none_beside image c.args.row p c.in-Some.found c.key-key.result v is (sym c.in-Some.is ∙ e) c.key-key.ensures c.in-Table.is)
    (sym told ∙ (sym c.row.ensures ∙ c.same_row.ensures.yes c.if-same_row.true)) is (c.copy_from_slice.ensures.after ∙ b) (ap length c.copy_from_slice.ensures.after ∙ c.requires.body_whole)
    )

pub returns-else-same_row : goal.returns-else-same_row
returns-else-same_row c = λ image p h n is e b.
    let g = c.args.geometry.now in
    let v = c.in-Table.number in
    let at = newest_at g (marks image) (c.args.row + 1) c.in-Some-index_of.index c.args.newest.now (Table v) (record { row = 0; sequence = [] }) n c.in-Some-index_of.ensures.0 c.in-Some-index_of.ensures.1 in
    let told = tells_place (get_or c.args.newest.now c.in-Some-index_of.index (record { row = 0; sequence = [] })) (latest_below (marks image) (Table v) (c.args.row + 1)) at in
    table_old g image c.args.row v c.args.tables.now h
    (none_beside image c.args.row p c.in-Some.found c.key-key.result v is (sym c.in-Some.is ∙ e) c.key-key.ensures c.in-Table.is)
    (λ x. c.same_row.ensures.no c.if-same_row.false (c.row.ensures ∙ (told ∙ x)))
