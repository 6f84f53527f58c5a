use Rattle.std.proofs.Common.{◌+◌, ◌≡◌, refl, subst, ◌∙◌}
use Rattle.std.proofs.lemmas.Result.{err_from_is_err_and}
use Rattle.page_layout.specs.Geometry.{row_count}
use Rattle.image_check.specs.PageReader.{IsReadTo}
use Rattle.image_check.specs.Passed.{Shows, IsPass}
use Rattle.image_check.proofs.PageReaderLemmas.{read_none, read_more, read_cut, page_size, row_before}
use Rattle.image_check.proofs.PassLemmas.{same_pass}
use Rattle.image_check.proofs.ReadLemmas.{at_end, place_fits}
use Rattle.image_check.proofs.StreamLemmas.{uncut}
use Rattle.image_check.proofs.stream.stream_pages.Goals as goal

pub loop-row-init : goal.loop-row-init
loop-row-init g c = record {
  pass_is = c.requires.pass;
  pass_same = record { geometry = refl; certificate = refl };
  read = read_none c.args.geometry.now _ (λ image. Shows image 0 c.args.pass.now) c.requires.shows;
}

pub page-requires : goal.page-requires
page-requires g c =
    let inv = c.loop-row.invariant in
    let fits = place_fits c.args.geometry.now _ _ _ _ _ _ _ (inv.pass_same.geometry ∙ c.requires.pass_geometry) c.loop-row-test.true c.rows-row-end.ensures
    (c.read_page.auto.body ∙ c.loop-row.auto.body) c.requires.body_whole (c.read_page.auto.spare ∙ c.loop-row.auto.spare) c.requires.spare_whole in
    record { pass = inv.pass_is; row_in = fits.row_in; body_whole = fits.body_whole; spare_whole = fits.spare_whole }

pub loop-row-preserved : goal.loop-row-preserved
loop-row-preserved g c =
    let geo = c.args.geometry.now in
    let inv = c.loop-row.invariant in
    let passed = c.page.ensures in
    let row = c.loop-row.row in
    record {
      pass_is = passed.pass;
      pass_same = same_pass _ _ _ inv.pass_same passed.same;
      read = read_more geo row _ _ _ (λ image. Shows image row c.loop-row.pass) (λ image. Shows image (row + 1) c.page.new.self) c.read_page.new.body c.read_page.new.spare
          inv.read c.in_ok-read_page.ensures.whole (c.read_page.auto.body ∙ (c.loop-row.auto.body ∙ c.requires.body_whole)) (c.read_page.auto.spare ∙ (c.loop-row.auto.spare ∙ c.requires.spare_whole)) (row_before geo _ _ c.loop-row-test.true c.rows-row-end.ensures) passed.shows;
    }

pub returns-in_err-read_page : goal.returns-in_err-read_page
returns-in_err-read_page g c =
    let geo = c.args.geometry.now in
    let row = c.loop-row.row in
    let p = err_from_is_err_and c.from_residual.result c.from_residual.ensures.1 in
    rw (p.1, p.2) (record {
      pass = tt;
      same_pass = tt;
      read = tt;
      cut = read_cut geo row _ _ _ _ (λ image. Shows image row c.loop-row.pass) _ c.loop-row.invariant.read
          (page_size geo _ _ _ _ (c.read_page.auto.body ∙ c.loop-row.auto.body) c.requires.body_whole (c.read_page.auto.spare ∙ c.loop-row.auto.spare) c.requires.spare_whole) (row_before geo _ _ c.loop-row-test.true c.rows-row-end.ensures) c.in_err-read_page.ensures.cut;
      failed = c.in_err-read_page.ensures.failed;
    })

pub returns : goal.returns
returns g c =
    let inv = c.loop-row.invariant in
    let geo = c.args.geometry.now in
    let end : c.loop-row.row ≡ row_count geo = at_end _ _ _ c.loop-row.auto.row-end c.loop-row-test.false c.rows-row-end.ensures in
    record {
      read = subst (λ k. IsReadTo geo k (g.R.DumpReader.remaining c.args.reader.now) (g.R.DumpReader.remaining c.loop-row.reader) (λ image. Shows image k c.loop-row.pass)) end inv.read;
      pass = subst (λ k. IsPass k c.loop-row.pass) end inv.pass_is;
      same_pass = inv.pass_same;
      cut = tt;
      failed = λ is. absurd (uncut _ _ _ refl is);
    }
