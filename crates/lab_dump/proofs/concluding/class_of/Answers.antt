use Rattle.std.proofs.Common.{◌≡◌, ◌+◌, ◌*◌, ◌/◌, ◌%◌, ◌∙◌, ap, sym, arith}
use Rattle.std.specs.Prelude.{slice_range}
use Rattle.std.proofs.Math.Nat.{mod-lt}
use Rattle.page_layout.specs.declared.record.Key.TheVariants.{Table}
use Rattle.page_layout.specs.Geometry.{entries, row_count}
use Rattle.page_layout.specs.Array.{marks}
use Rattle.page_layout.specs.Word.{word_at}
use Rattle.page_layout.proofs.GeometryLemmas.{block_entry}
use Rattle.lab_dump.proofs.TraceLemmas.{placed_at}
use Rattle.lab_dump.proofs.ConcludeLemmas.{class_read, class_none, entries_some}
use Rattle.lab_dump.proofs.concluding.class_of.Goals as goal

pub bounds-traces-first : goal.bounds-traces-first
bounds-traces-first c =
    let g = c.args.geometry.now in
    let page : c.args.block / c.entries-entries.result ≡ c.args.block / entries g = ap (λ k. c.args.block / k) c.entries-entries.ensures in
    omega (arith, block_entry g c.args.block c.requires.within)

pub body_of-requires-clause-within : goal.body_of-requires-clause-within
body_of-requires-clause-within c =
    let g = c.args.geometry.now in
    let page : c.args.block / c.entries-entries.result ≡ c.args.block / entries g = ap (λ k. c.args.block / k) c.entries-entries.ensures in
    omega (arith, block_entry g c.args.block c.requires.within)

pub read_word-requires : goal.read_word-requires
read_word-requires c =
    let g = c.args.geometry.now in
    let low = mod-lt c.args.block (entries_some g) in
    let entry : c.args.block % c.entries-entries.result ≡ c.args.block % entries g = ap (λ k. c.args.block % k) c.entries-entries.ensures in
    let size = c.body_of.ensures.size in
    omega arith

pub returns-in-Some : goal.returns-in-Some
returns-in-Some c = λ image size h t.
    let g = c.args.geometry.now in
    let e = c.entries-entries.ensures in
    let page : c.args.block / c.entries-entries.result ≡ c.args.block / entries g = ap (λ k. c.args.block / k) e in
    let within = block_entry g c.args.block c.requires.within in
    let i = c.sectors.result + c.translation_pages.result + c.args.block / c.entries-entries.result in
    let told = placed_at g (marks image) (row_count g) i c.args.traces.now (Table (c.args.block / entries g)) _ h within (omega arith) in
    ap (λ w. w % 256) (c.read_word.ensures ∙ ap (λ k. word_at c.body_of.result.now (4 * (c.args.block % k))) e)
    ∙ class_read g image c.args.tables.now c.body_of.result.now c.args.block _ size t within (sym told ∙ (sym c.row.ensures ∙ c.in-Some.is)) (entries_some g)
    (c.body_of.ensures.is ∙ ap (λ u. slice_range c.args.tables.now (u * g.data_bytes) (u * g.data_bytes + g.data_bytes)) page)

pub returns-in-None : goal.returns-in-None
returns-in-None c = λ image size h t.
    let g = c.args.geometry.now in
    let page : c.args.block / c.entries-entries.result ≡ c.args.block / entries g = ap (λ k. c.args.block / k) c.entries-entries.ensures in
    let within = block_entry g c.args.block c.requires.within in
    let i = c.sectors.result + c.translation_pages.result + c.args.block / c.entries-entries.result in
    let told = placed_at g (marks image) (row_count g) i c.args.traces.now (Table (c.args.block / entries g)) _ h within (omega arith) in
    class_none g image c.args.block size (sym told ∙ (sym c.row.ensures ∙ c.in-None.is))
