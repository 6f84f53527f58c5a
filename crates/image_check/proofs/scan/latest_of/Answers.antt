use Rattle.std.proofs.Common.{◌≡◌, ◌<◌, ap, sym, subst, refl, le_refl, ◌∙◌, slice_get, Some}
use Rattle.std.proofs.lemmas.Result.{err_from_is_err_and}
use Rattle.page_layout.specs.Array.{marks}
use Rattle.page_layout.specs.Flash.{Flash}
use Rattle.page_layout.specs.Geometry.{row_count}
use Rattle.page_layout.specs.Newest.{latest_below}
use Rattle.page_layout.specs.Page.{page}
use Rattle.page_layout.proofs.ArrayLemmas.{latest_none, latest_more}
use Rattle.page_layout.proofs.GeometryLemmas.{some_rows}
use Rattle.image_check.specs.Sector.{IsBelow}
use Rattle.image_check.proofs.PassLemmas.{whole_of}
use Rattle.image_check.proofs.ReadLemmas.{reads_none, reads_then, reads_kept, risen_over, none_below, at_end, place_fits, reads_start, reads_next, reads_to, reads_stopped}
use Rattle.image_check.proofs.SectorLemmas.{step_below}
use Rattle.image_check.proofs.scan.latest_of.Goals as goal

pub loop-row-init : goal.loop-row-init
loop-row-init g c = record {
  only_reads = reads_none _ _;
  same = λ honest. refl;
  whole = λ some. absurd (none_below some);
  read_few = reads_start _;
  read_on = λ few. (le_refl _, few);
  found = λ honest. sym (latest_none (g.S.PageSource.view.flash c.args.source.now).image c.args.key);
  below = tt;
}

pub read_page-requires : goal.read_page-requires
read_page-requires g c =
    let fits = place_fits c.args.geometry.now _ _ _ _ _ _ _ (c.loop-row.invariant.only_reads.geometry_is ∙ c.requires.same_geometry) c.loop-row-test.true c.rows-row-end.ensures c.loop-row.auto.body c.requires.body_whole c.loop-row.auto.spare c.requires.spare_whole in
    record { row_in = fits.row_in; body_whole = fits.body_whole; spare_whole = fits.spare_whole }

pub loop-row-preserved : goal.loop-row-preserved
loop-row-preserved g c =
    let inv = c.loop-row.invariant in
    let read = c.in_ok-read_page.ensures in
    let image = (g.S.PageSource.view.flash c.args.source.now).image in
    let row = c.loop-row.row in
    record {
      only_reads = reads_then _ _ _ _ inv.only_reads (record { geometry_is = read.geometry; honest_is = read.honest; calm_is = read.calm; programs_are = read.programs; erases_are = read.erases; failed_is = read.failed });
      same = λ honest. read.same (inv.only_reads.honest_is ∙ honest) ∙ inv.same honest;
      whole = λ some honest. whole_of c.args.geometry.now (g.S.PageSource.view.flash c.read_page.new.self) (read.geometry ∙ (inv.only_reads.geometry_is ∙ c.requires.same_geometry)) (read.whole (inv.only_reads.honest_is ∙ honest));
      read_few = reads_next _ _ _ _ inv.read_few read.reads;
      read_on = λ few. reads_kept _ _ _ (inv.read_on few) read.reads;
      found = λ honest.
          let now = page c.read_page.new.body c.read_page.new.spare in
          let at : slice_get image row ≡ Some now = ap (λ (f : Flash). slice_get f.image row) (sym (inv.same honest)) ∙ read.page (inv.only_reads.honest_is ∙ honest) in
          rw (c.step-newest.ensures, c.sequence_in-sequence.ensures, inv.found honest) (sym (latest_more image c.args.key row now at));
      below = rw c.step-newest.ensures (step_below c.loop-row.newest row _ inv.below);
    }

pub returns : goal.returns
returns g c =
    let end : c.loop-row.row ≡ row_count c.args.geometry.now = at_end _ _ _ c.loop-row.auto.row-end c.loop-row-test.false c.rows-row-end.ensures in
    let inv = c.loop-row.invariant in
    record {
      found = λ honest. subst (λ k. c.loop-row.newest ≡ latest_below (marks (g.S.PageSource.view.flash c.args.source.now).image) c.args.key k) end (inv.found honest);
      within = subst (λ k. IsBelow k c.loop-row.newest) end inv.below;
      same = inv.same;
      whole = inv.whole (subst (λ k. 0 < k) (sym end) (some_rows c.args.geometry.now));
      only_reads = inv.only_reads;
      reads = reads_to _ _ _ _ inv.read_few end;
      counted = inv.read_on;
      rose = tt;
    }

pub returns-in_err-read_page : goal.returns-in_err-read_page
returns-in_err-read_page g c =
    let inv = c.loop-row.invariant in
    let read = c.read_page.ensures in
    let p = err_from_is_err_and c.from_residual.result c.from_residual.ensures.1 in
    rw p.1 (record {
      found = tt;
      within = tt;
      same = tt;
      whole = tt;
      only_reads = reads_then _ _ _ _ inv.only_reads (record { geometry_is = read.geometry; honest_is = read.honest; calm_is = read.calm; programs_are = read.programs; erases_are = read.erases; failed_is = read.failed });
      reads = reads_stopped _ _ _ _ _ _ inv.read_few read.reads c.loop-row-test.true c.rows-row-end.ensures;
      counted = λ few. reads_kept _ _ _ (inv.read_on few) read.reads;
      rose = risen_over _ _ _ inv.only_reads.failed_is c.in_err-read_page.ensures.rose;
    })
