use Rattle.std.proofs.Common.{◌+◌, length, ap, sym, subst, ◌∙◌}
use Rattle.page_layout.specs.declared.record.Key.TheVariants.{Table}
use Rattle.page_layout.specs.Live.{IsKeyOf}
use Rattle.page_layout.specs.Array.{marks}
use Rattle.image_check.proofs.TableLemmas.{table_stays, table_old, table_new, none_unsound, none_other, none_beside}
use Rattle.lab_dump.proofs.TraceLemmas.{placed_at}
use Rattle.lab_dump.proofs.doubting.note_table.Goals as goal

pub returns-in_default : goal.returns-in_default
returns-in_default c = λ image p h n is e b. table_stays c.args.geometry.now image c.args.row c.args.tables.now h (λ u k. none_unsound image c.args.row p is (sym c.in_default.is ∙ e) u)

pub returns-in_default-key : goal.returns-in_default-key
returns-in_default-key c = λ image p h n is e b.
    table_stays c.args.geometry.now image c.args.row c.args.tables.now h (λ u k. none_other image c.args.row p c.in-Some.found c.key-key.result is (sym c.in-Some.is ∙ e) c.key-key.ensures u (λ x. c.in_default-key.not-Table u x))

pub returns-in_default-index_of : goal.returns-in_default-index_of
returns-in_default-index_of c = λ image p h n is e b.
    let g = c.args.geometry.now in
    table_stays g image c.args.row c.args.tables.now h (λ u k. none_other image c.args.row p c.in-Some.found c.key-key.result is (sym c.in-Some.is ∙ e) c.key-key.ensures u (λ x. c.in_default-index_of.ensures (subst (λ y. IsKeyOf g y) (sym x ∙ c.in-Table.is) k)))

pub returns-then-is_at : goal.returns-then-is_at
returns-then-is_at c = λ image p h n is e b.
    let g = c.args.geometry.now in
    let v = c.in-Table.number in
    let told = placed_at g (marks image) (c.args.row + 1) c.in-Some-index_of.index c.args.traces.now (Table v) _ n c.in-Some-index_of.ensures.0 c.in-Some-index_of.ensures.1 in
    rw c.data_bytes-data_bytes.ensures (
    table_new g image c.args.row v c.args.tables.now c.copy_from_slice.new.self p h c.in-Some-index_of.ensures.0
    (none_beside image c.args.row p c.in-Some.found c.key-key.result v is (sym c.in-Some.is ∙ e) c.key-key.ensures c.in-Table.is)
    (sym told ∙ c.is_at.ensures.yes c.if-is_at.true) is (c.copy_from_slice.ensures.after ∙ b) (ap length c.copy_from_slice.ensures.after ∙ c.requires.body_whole)
    )

pub returns-else-is_at : goal.returns-else-is_at
returns-else-is_at c = λ image p h n is e b.
    let g = c.args.geometry.now in
    let v = c.in-Table.number in
    let told = placed_at g (marks image) (c.args.row + 1) c.in-Some-index_of.index c.args.traces.now (Table v) _ n c.in-Some-index_of.ensures.0 c.in-Some-index_of.ensures.1 in
    table_old g image c.args.row v c.args.tables.now h
    (none_beside image c.args.row p c.in-Some.found c.key-key.result v is (sym c.in-Some.is ∙ e) c.key-key.ensures c.in-Table.is)
    (λ x. c.is_at.ensures.no c.if-is_at.false (told ∙ x))
