use Rattle.std.proofs.Common.{◌≡◌, ◌<◌, ◌∙◌, ap, sym, slice_get, refl, subst}
use Rattle.std.proofs.lemmas.Result.{err_from_is_err_and}
use Rattle.page_layout.specs.Flash.{Flash}
use Rattle.page_layout.specs.Geometry.{row_count}
use Rattle.page_layout.proofs.GeometryLemmas.{some_rows}
use Rattle.image_check.specs.Passed.{IsPass, Shows}
use Rattle.image_check.proofs.PassLemmas.{whole_of, same_pass}
use Rattle.image_check.proofs.ReadLemmas.{reads_none, reads_then, risen_over, none_below, at_end, place_fits, reads_start, reads_next, reads_to, reads_stopped}
use Rattle.image_check.proofs.checker.show_pages.Goals as goal

pub loop-row-init : goal.loop-row-init
loop-row-init g c = record {
  only_reads = reads_none _ _;
  pass_is = c.requires.pass;
  pass_same = record { geometry = refl; certificate = refl };
  same = λ honest. refl;
  told = λ honest. refl;
  whole = λ some. absurd (none_below some);
  reads = reads_start _;
  seen = λ honest start. start;
}

pub read_page-requires : goal.read_page-requires
read_page-requires g c =
    let fits = place_fits c.args.geometry.now _ _ _ _ _ _ _ (c.loop-row.invariant.only_reads.geometry_is ∙ c.requires.same_geometry) c.loop-row-test.true c.rows-row-end.ensures c.loop-row.auto.body c.requires.body_whole c.loop-row.auto.spare c.requires.spare_whole in
    record { row_in = fits.row_in; body_whole = fits.body_whole; spare_whole = fits.spare_whole }

pub page-requires : goal.page-requires
page-requires g c =
    let fits = place_fits c.args.geometry.now _ _ _ _ _ _ _ (c.loop-row.invariant.pass_same.geometry ∙ c.requires.pass_geometry) c.loop-row-test.true c.rows-row-end.ensures
    (c.read_page.auto.body ∙ c.loop-row.auto.body) c.requires.body_whole (c.read_page.auto.spare ∙ c.loop-row.auto.spare) c.requires.spare_whole in
    record { pass = c.loop-row.invariant.pass_is; row_in = fits.row_in; body_whole = fits.body_whole; spare_whole = fits.spare_whole }

pub loop-row-preserved : goal.loop-row-preserved
loop-row-preserved g c =
    let geo = c.args.geometry.now in
    let first = g.S.PageSource.view.flash c.args.source.now in
    let inv = c.loop-row.invariant in
    let read = c.in_ok-read_page.ensures in
    let passed = c.page.ensures in
    record {
      only_reads = reads_then _ _ _ _ inv.only_reads (record { geometry_is = read.geometry; honest_is = read.honest; calm_is = read.calm; programs_are = read.programs; erases_are = read.erases; failed_is = read.failed });
      pass_is = passed.pass;
      pass_same = same_pass _ _ _ inv.pass_same passed.same;
      same = λ honest. read.same (inv.only_reads.honest_is ∙ honest) ∙ inv.same honest;
      told = λ honest. read.recorded (inv.only_reads.honest_is ∙ honest) ∙ inv.told honest;
      whole = λ below honest. whole_of geo (g.S.PageSource.view.flash c.read_page.new.self) (read.geometry ∙ (inv.only_reads.geometry_is ∙ c.requires.same_geometry)) (read.whole (inv.only_reads.honest_is ∙ honest));
      reads = reads_next _ _ _ _ inv.reads read.reads;
      seen = λ honest start. passed.shows first.image (inv.seen honest start) (ap (λ (f : Flash). slice_get f.image c.loop-row.row) (sym (inv.same honest)) ∙ read.page (inv.only_reads.honest_is ∙ honest));
    }

pub returns : goal.returns
returns g c =
    let geo = c.args.geometry.now in
    let inv = c.loop-row.invariant in
    let end : c.loop-row.row ≡ row_count geo = at_end _ _ _ c.loop-row.auto.row-end c.loop-row-test.false c.rows-row-end.ensures in
    record {
      pass = subst (λ k. IsPass k c.loop-row.pass) end inv.pass_is;
      same_pass = inv.pass_same;
      shows = λ honest start. subst (λ k. Shows (g.S.PageSource.view.flash c.args.source.now).image k c.loop-row.pass) end (inv.seen honest start);
      same = inv.same;
      told = inv.told;
      whole = inv.whole (subst (λ k. 0 < k) (sym end) (some_rows geo));
      only_reads = inv.only_reads;
      reads = reads_to _ _ _ _ inv.reads end;
      rose = tt;
    }

pub returns-in_err-read_page : goal.returns-in_err-read_page
returns-in_err-read_page g c =
    let p = err_from_is_err_and c.from_residual.result c.from_residual.ensures.1 in
    let inv = c.loop-row.invariant in
    let read = c.read_page.ensures in
    rw p.1 (record {
      pass = tt;
      same_pass = tt;
      shows = tt;
      same = tt;
      told = tt;
      whole = tt;
      only_reads = reads_then _ _ _ _ inv.only_reads (record { geometry_is = read.geometry; honest_is = read.honest; calm_is = read.calm; programs_are = read.programs; erases_are = read.erases; failed_is = read.failed });
      reads = reads_stopped _ _ _ _ _ _ inv.reads read.reads c.loop-row-test.true c.rows-row-end.ensures;
      rose = risen_over _ _ _ inv.only_reads.failed_is c.in_err-read_page.ensures.rose;
    })
