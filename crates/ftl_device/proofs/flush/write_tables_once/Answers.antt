use Rattle.std.proofs.Common.{◌≡◌, ◌<◌, ◌∙◌, Ok, Err, refl, sym, subst}
use Rattle.std.proofs.lemmas.Result.{err_from_is_err_and}
use Rattle.page_layout.specs.Geometry.{table_pages}
use Rattle.budget.specs.declared.stream.Stream.TheVariants.{Meta}
use Rattle.page_layout.specs.declared.geometry.Geometry.{Geometry}
use Rattle.collection.specs.Safe.{ram, image_in}
use Rattle.collection.proofs.Memory.{table_then}
use Rattle.ftl_device.specs.Flush.{AddsPages, KeepsTables}
use Rattle.ftl_device.proofs.AnswerLemmas.{no_err, loop_end, below_end, table_here}
use Rattle.ftl_device.specs.FlushSteps.{WritesFirst}
use Rattle.ftl_device.proofs.FlushStepLemmas.{table_written, tables_then}
use Rattle.collection.proofs.Beside.{beside_then}
use Rattle.ftl_device.proofs.PinLemmas.{beside_here, beside_mapping}
use Rattle.ftl_device.proofs.FlushLoops.{page_fails, pages_none, pages_more, tables_none, tables_more, tabled_refused}
use Rattle.ftl_device.proofs.LeaveLemmas.{leaves_by, leaves_same, leaves_then, limits_same, page_told}
use Rattle.ftl_device.proofs.flush.write_tables_once.Goals as goal

pub pages-init : goal.pages-init
pages-init g c = record {
  leaves = leaves_same g.N.PageSource.view c.args.engine.now c.requires.safe c.requires.going;
  mapping = refl;
  beside = beside_here (ram c.args.engine.now);
  table = table_here _;
  cost = pages_none (ram c.args.engine.now);
  written = refl;
  truth = λ honest w. tables_none (ram c.args.engine.now) _ w;
}

pub pages-preserved : goal.pages-preserved
pages-preserved g c = record {
  leaves = leaves_then g.N.PageSource.view c.args.engine.now
      c.pages.engine c.write_table.new.self _ (Ok tt) (λ honest k. (c.pages.invariant.truth honest k).keeps)
      (limits_same _ _ c.pages.invariant.mapping) c.pages.invariant.leaves
      (leaves_by g.N.PageSource.view c.pages.engine
      c.write_table.new.self (Ok tt) c.pages.invariant.leaves.fault c.in_ok-write_table.ensures.stands c.write_table.ensures.goes.geometry
      (page_told Meta (Ok tt) (ram c.pages.engine) (ram c.write_table.new.self) (c.in_ok-write_table.ensures.cost c.pages.invariant.leaves.fault))
      (λ honest k ne. c.in_ok-write_table.ensures.stops honest c.pages.invariant.leaves.fault k.truth ne)
      (λ honest k bus. absurd (no_err _ _ _ refl bus)));
  mapping = c.write_table.ensures.mapping ∙ c.pages.invariant.mapping;
  beside = beside_then _ _ _ c.pages.invariant.beside (beside_mapping (ram c.pages.engine) (ram c.write_table.new.self) c.write_table.ensures.pin c.write_table.ensures.goes c.write_table.ensures.mapping);
  table = table_then _ _ _ c.pages.invariant.table c.write_table.ensures.table;
  cost = pages_more c.pages.u (ram c.args.engine.now) _ (ram c.write_table.new.self) c.pages.invariant.leaves.geometry c.pages.invariant.cost (c.in_ok-write_table.ensures.cost c.pages.invariant.leaves.fault);
  written = tables_then g.N.PageSource.view c.pages.u c.args.engine.now c.pages.engine c.write_table.new.self c.pages.invariant.written
      (table_written g.N.PageSource.view c.pages.u
      c.pages.engine c.write_table.new.self tt c.pages.invariant.leaves.safe.memory c.write_table.ensures.stands.safe.memory
      (beside_mapping (ram c.pages.engine) (ram c.write_table.new.self) c.write_table.ensures.pin c.write_table.ensures.goes
      c.write_table.ensures.mapping)
      c.write_table.ensures.goes c.in_ok-write_table.ensures.stands c.write_table.ensures.mapping c.in_ok-write_table.ensures.programmed
      (c.write_table.ensures.spelled c.pages.invariant.leaves.fault) (c.in_ok-write_table.ensures.cost c.pages.invariant.leaves.fault)
      (λ honest true_of. c.in_ok-write_table.ensures.truth honest c.pages.invariant.leaves.fault true_of));
  truth = λ honest w.
      let before = c.pages.invariant.truth honest w in
      tables_more c.pages.u (ram c.args.engine.now) _ (ram c.write_table.new.self) _ _ _ c.pages.invariant.leaves.geometry
      c.pages.invariant.leaves.safe.memory c.write_table.ensures.stands.safe.memory
      (beside_mapping (ram c.pages.engine) (ram c.write_table.new.self) c.write_table.ensures.pin c.write_table.ensures.goes
      c.write_table.ensures.mapping) c.pages.invariant.table c.write_table.ensures.table before
      (c.in_ok-write_table.ensures.truth (c.pages.invariant.leaves.die.honest_is ∙ honest) c.pages.invariant.leaves.fault before.keeps.truth.truth);
}

pub returns-clause-round : goal.returns-clause-round
returns-clause-round g c =
    let end : c.pages.u ≡ table_pages c.args.engine.now.geometry = loop_end _ _ _ c.table_pages-u-end.ensures c.pages.auto.u-end c.pages-test.false in
    record { pages = subst (λ n. WritesFirst g.N.PageSource.view n c.args.engine.now c.pages.engine) end c.pages.invariant.written }

pub returns-clause-cost : goal.returns-clause-cost
returns-clause-cost g c =
    let end : c.pages.u ≡ table_pages c.args.engine.now.geometry = loop_end _ _ _ c.table_pages-u-end.ensures c.pages.auto.u-end c.pages-test.false in
    subst (λ n. AddsPages n (ram c.args.engine.now) (ram c.pages.engine)) end c.pages.invariant.cost

pub returns-in_err-write_table-clause-out : goal.returns-in_err-write_table-clause-out
returns-in_err-write_table-clause-out g c =
    let p = err_from_is_err_and c.from_residual.result c.from_residual.ensures.1 in
    rw (p.1, p.2)
    (λ is. page_fails c.pages.u (table_pages c.args.engine.now.geometry) (ram c.args.engine.now) (ram c.pages.engine) (ram c.write_table.new.self)
    _ c.pages.invariant.leaves.geometry (below_end _ _ _ c.table_pages-u-end.ensures c.pages-test.true) c.pages.invariant.table c.pages.invariant.cost
    (c.in_err-write_table.ensures.cost c.pages.invariant.leaves.fault) is)

pub returns-in_err-write_table-clause-leaves : goal.returns-in_err-write_table-clause-leaves
returns-in_err-write_table-clause-leaves g c =
    let p = err_from_is_err_and c.from_residual.result c.from_residual.ensures.1 in
    rw (p.1, p.2)
    (leaves_then g.N.PageSource.view c.args.engine.now
    c.pages.engine c.write_table.new.self _ (Err _) (λ honest k. (c.pages.invariant.truth honest k).keeps)
    (limits_same _ _ c.pages.invariant.mapping) c.pages.invariant.leaves
    (leaves_by g.N.PageSource.view c.pages.engine
    c.write_table.new.self (Err _) c.pages.invariant.leaves.fault c.in_err-write_table.ensures.stands c.write_table.ensures.goes.geometry
    (page_told Meta (Err _) (ram c.pages.engine) (ram c.write_table.new.self) (c.in_err-write_table.ensures.cost c.pages.invariant.leaves.fault))
    (λ honest k ne. c.in_err-write_table.ensures.stops honest c.pages.invariant.leaves.fault k.truth ne)
    (λ honest k bus. c.in_err-write_table.ensures.cut honest c.pages.invariant.leaves.fault k.truth bus)))

pub returns-in_err-write_table-clause-beside : goal.returns-in_err-write_table-clause-beside
returns-in_err-write_table-clause-beside g c = beside_then _ _ _ c.pages.invariant.beside (beside_mapping (ram c.pages.engine) (ram c.write_table.new.self) c.write_table.ensures.pin c.write_table.ensures.goes c.write_table.ensures.mapping)

pub returns-in_err-write_table-clause-truth : goal.returns-in_err-write_table-clause-truth
returns-in_err-write_table-clause-truth g c =
    let p = err_from_is_err_and c.from_residual.result c.from_residual.ensures.1 in
    rw (p.1, p.2) (λ honest w.
    let before = c.pages.invariant.truth honest w in
    tabled_refused c.pages.u (ram c.args.engine.now) (ram c.pages.engine) (ram c.write_table.new.self) _ _ _ _ c.pages.invariant.leaves.geometry
    c.pages.invariant.leaves.safe.memory c.write_table.ensures.stands.safe.memory
    (beside_mapping (ram c.pages.engine) (ram c.write_table.new.self) c.write_table.ensures.pin c.write_table.ensures.goes
    c.write_table.ensures.mapping) before
    (c.in_err-write_table.ensures.truth (c.pages.invariant.leaves.die.honest_is ∙ honest) c.pages.invariant.leaves.fault before.keeps.truth.truth))

-- ---- the rest

pub returns-clause-leaves : goal.returns-clause-leaves
returns-clause-leaves g c = c.pages.invariant.leaves

pub returns-clause-mapping : goal.returns-clause-mapping
returns-clause-mapping g c = c.pages.invariant.mapping

pub returns-clause-beside : goal.returns-clause-beside
returns-clause-beside g c = c.pages.invariant.beside

pub returns-clause-table : goal.returns-clause-table
returns-clause-table g c = c.pages.invariant.table

pub returns-clause-out : goal.returns-clause-out
returns-clause-out g c = λ is. absurd (no_err _ _ _ refl is)

pub returns-clause-truth : goal.returns-clause-truth
returns-clause-truth g c = λ honest w.
    let end : c.pages.u ≡ table_pages c.args.engine.now.geometry = loop_end _ _ _ c.table_pages-u-end.ensures c.pages.auto.u-end c.pages-test.false in
    subst (λ n. KeepsTables n (ram c.args.engine.now) (image_in g.N.PageSource.view.flash c.args.engine.now) (ram c.pages.engine) (image_in g.N.PageSource.view.flash c.pages.engine)) end (c.pages.invariant.truth honest w)

pub returns-in_err-write_table-clause-mapping : goal.returns-in_err-write_table-clause-mapping
returns-in_err-write_table-clause-mapping g c = c.write_table.ensures.mapping ∙ c.pages.invariant.mapping

pub returns-in_err-write_table-clause-table : goal.returns-in_err-write_table-clause-table
returns-in_err-write_table-clause-table g c = table_then _ _ _ c.pages.invariant.table c.write_table.ensures.table

pub returns-in_err-write_table-clause-cost : goal.returns-in_err-write_table-clause-cost
returns-in_err-write_table-clause-cost g c =
    let p = err_from_is_err_and c.from_residual.result c.from_residual.ensures.1 in
    rw p.1 tt

pub returns-in_err-write_table-clause-round : goal.returns-in_err-write_table-clause-round
returns-in_err-write_table-clause-round g c =
    let p = err_from_is_err_and c.from_residual.result c.from_residual.ensures.1 in
    rw p.1 tt

pub write_table-requires-clause-safe : goal.write_table-requires-clause-safe
write_table-requires-clause-safe g c = c.pages.invariant.leaves.safe

pub write_table-requires-clause-page : goal.write_table-requires-clause-page
write_table-requires-clause-page g c = subst (λ (geometry : Geometry). c.pages.u < table_pages geometry) (sym c.pages.invariant.leaves.geometry) (below_end _ _ _ c.table_pages-u-end.ensures c.pages-test.true)
