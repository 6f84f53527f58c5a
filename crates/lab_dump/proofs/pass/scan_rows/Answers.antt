use Rattle.std.proofs.Common.{◌≡◌, ℕ, ◌+◌, Err, ap, refl, subst, ◌∙◌}
use Rattle.std.proofs.lemmas.Result.{err_from_is_err_and}
use Rattle.page_layout.specs.Geometry.{row_count}
use Rattle.page_layout.specs.Page.{Image}
use Rattle.image_check.proofs.PageReaderLemmas.{read_none, read_more, read_cut, taken}
use Rattle.lab_dump.specs.Rows.{within}
use Rattle.lab_dump.proofs.RowLemmas.{shown_at}
use Rattle.lab_dump.proofs.ScanLemmas.{at_end, page_size, row_before, cut_source, cut_no_stop, cut_untaken, end_no_stop, end_untaken, err_map, ok_map, on_ok, read_all, stop_no_source, stopped_untaken}
use Rattle.lab_dump.proofs.pass.scan_rows.Goals as goal

pub loop-row-init : goal.loop-row-init
loop-row-init g c =
    let geo = c.args.geometry.now in
    let shows : Image → Type 0 = λ image. g.T.Taker.shows c.args.taker.now geo 0 (within geo c.args.rows image) in
    record { asked = refl; fixed = refl; stands = c.requires.stands; read = read_none geo _ shows (λ image. c.requires.shows (within geo c.args.rows image)) }

pub show_page-requires : goal.show_page-requires
show_page-requires g c = record {
  body_whole = c.read_page.auto.body ∙ (c.loop-row.auto.body ∙ c.requires.body_whole);
  spare_whole = c.read_page.auto.spare ∙ (c.loop-row.auto.spare ∙ c.requires.spare_whole);
}

pub take-requires : goal.take-requires
take-requires g c = record {
  row_in = row_before c.args.geometry.now _ _ c.loop-row-test.true c.rows-row-end.ensures;
  body_whole = c.show_page.auto.body ∙ (c.read_page.auto.body ∙ (c.loop-row.auto.body ∙ c.requires.body_whole));
  spare_whole = c.show_page.auto.spare ∙ (c.read_page.auto.spare ∙ (c.loop-row.auto.spare ∙ c.requires.spare_whole));
  stands = c.loop-row.invariant.stands;
}

pub loop-row-preserved : goal.loop-row-preserved
loop-row-preserved g c =
    let inv = c.loop-row.invariant in
    let geo = c.args.geometry.now in
    let rows = c.args.rows in
    let row = c.loop-row.row in
    let before : Image → Type 0 = λ image. g.T.Taker.shows c.loop-row.taker geo row (within geo rows image) in
    let after : Image → Type 0 = λ image. g.T.Taker.shows c.take.new.self geo (row + 1) (within geo rows image) in
    record {
      asked = c.in_ok-take.ensures.asked ∙ inv.asked;
      fixed = c.in_ok-take.ensures.fixed ∙ inv.fixed;
      stands = c.in_ok-take.ensures.stands;
      read = read_more geo row _ _ _ before after c.read_page.new.body c.read_page.new.spare inv.read c.in_ok-read_page.ensures.whole
          (c.read_page.auto.body ∙ (c.loop-row.auto.body ∙ c.requires.body_whole)) (c.read_page.auto.spare ∙ (c.loop-row.auto.spare ∙ c.requires.spare_whole)) (row_before geo _ _ c.loop-row-test.true c.rows-row-end.ensures)
          (λ image shown at. c.in_ok-take.ensures.shows (within geo rows image) shown (shown_at geo rows image row c.read_page.new.body c.read_page.new.spare c.show_page.new.body c.show_page.new.spare at c.show_page.ensures));
    }

pub returns-in_err-read_page : goal.returns-in_err-read_page
returns-in_err-read_page g c =
    let p = err_from_is_err_and c.from_residual.result c.from_residual.ensures.1 in
    let geo = c.args.geometry.now in
    let row = c.loop-row.row in
    let shows : Image → Type 0 = λ image. g.T.Taker.shows c.loop-row.taker geo row (within geo c.args.rows image) in
    let size = page_size geo _ _ _ _ (c.read_page.auto.body ∙ c.loop-row.auto.body) c.requires.body_whole (c.read_page.auto.spare ∙ c.loop-row.auto.spare) c.requires.spare_whole in
    rw (p.1, p.2) (record {
      asked = tt;
      fixed = tt;
      stands = tt;
      taken = tt;
      untaken = cut_untaken geo _ _ _ _ (read_cut geo row _ _ _ _ shows _ c.loop-row.invariant.read size (row_before geo _ _ c.loop-row-test.true c.rows-row-end.ensures) c.in_err-read_page.ensures.cut) refl;
      source = λ is. c.read_page.ensures.failed (c.in_err-read_page.was ∙ ap Err (cut_source _ _ refl is));
      stopped = λ is. absurd (cut_no_stop _ _ refl is);
    })

pub returns-in_err-take : goal.returns-in_err-take
returns-in_err-take g c =
    let p = err_from_is_err_and c.from_residual-in_err-take.result c.from_residual-in_err-take.ensures.1 in
    rw (p.1, p.2) (record {
      asked = tt;
      fixed = tt;
      stands = tt;
      taken = tt;
      untaken = stopped_untaken c.args.geometry.now _ _ refl;
      source = λ is. absurd (stop_no_source _ refl is);
      stopped = λ is. c.in_err-take.ensures.stopped;
    })

pub returns : goal.returns
returns g c =
    let geo = c.args.geometry.now in
    let inv = c.loop-row.invariant in
    let shown : ℕ → Image → Type 0 = λ row image. g.T.Taker.shows c.loop-row.taker geo row (within geo c.args.rows image) in
    let end : c.loop-row.row ≡ row_count geo = at_end _ _ _ c.loop-row.auto.row-end c.loop-row-test.false c.rows-row-end.ensures in
    let read = read_all geo c.loop-row.row _ _ shown end inv.read in
    record {
      asked = on_ok _ c.expect_end.result inv.asked;
      fixed = on_ok _ c.expect_end.result inv.fixed;
      stands = on_ok _ c.expect_end.result (subst (λ n. g.T.Taker.stands c.loop-row.taker geo n) end inv.stands);
      taken = ok_map _ _ c.expect_end.result (λ e. taken geo _ _ (shown (row_count geo)) read e) c.expect_end.ensures.ok;
      untaken = err_map _ _ c.expect_end.result (λ f h. end_untaken geo _ _ (shown (row_count geo)) f read h) c.expect_end.ensures.err;
      source = c.expect_end.ensures.source;
      stopped = λ is. absurd (end_no_stop c.expect_end.result _ c.expect_end.ensures.err is);
    }
