use Rattle.std.proofs.Common.{◌≡◌, ◌<◌, refl, sym, ◌∙◌, subst, inl, inr}
use Rattle.std.proofs.lemmas.Result.{err_from_is_err_and}
use Rattle.page_layout.specs.Geometry.{row_count}
use Rattle.page_layout.specs.Flash.{Flash}
use Rattle.page_layout.specs.Page.{IsImage}
use Rattle.page_layout.proofs.GeometryLemmas.{some_rows}
use Rattle.image_check.specs.Surveyed.{IsSurvey, IsSized}
use Rattle.image_check.proofs.JudgeLemmas.{surveys_of}
use Rattle.image_check.proofs.PassLemmas.{whole_of}
use Rattle.image_check.proofs.ReadLemmas.{reads_none, reads_then, risen_over, none_below, at_end, place_fits, reads_start, reads_same, reads_next, reads_to, reads_stopped}
use Rattle.image_check.proofs.RefusalLemmas.{same_refusal, memory_not_source}
use Rattle.image_check.proofs.SeenLemmas.{seen, sized_more}
use Rattle.mount.proofs.RefuseLemmas.{given_not}
use Rattle.mount.proofs.mount_pages.survey_pages.Goals as goal

pub loop-row-init : goal.loop-row-init
loop-row-init g c = record {
  told = λ honest. refl;
  only_reads = reads_none _ _;
  sized = c.in_ok-survey.ensures.sized;
  same = λ honest. refl;
  whole = λ some. absurd (none_below some);
  reads = reads_start _;
  seen = λ honest. c.in_ok-survey.ensures.survey (g.S.PageSource.view.flash c.args.source.now).image;
}

pub read_page-requires : goal.read_page-requires
read_page-requires g c =
    let fits = place_fits c.args.geometry.now _ _ _ _ _ _ _ (c.loop-row.invariant.only_reads.geometry_is ∙ c.requires.same_geometry) c.loop-row-test.true c.rows-row-end.ensures c.loop-row.auto.body c.requires.body_whole c.loop-row.auto.spare c.requires.spare_whole in
    record { row_in = fits.row_in; body_whole = fits.body_whole; spare_whole = fits.spare_whole }

pub see-requires : goal.see-requires
see-requires g c =
    let sized = c.loop-row.invariant.sized in
    let fits = place_fits c.args.geometry.now _ _ _ _ _ _ _ sized.geometry_is c.loop-row-test.true c.rows-row-end.ensures
    (c.read_page.auto.body ∙ c.loop-row.auto.body) c.requires.body_whole (c.read_page.auto.spare ∙ c.loop-row.auto.spare) c.requires.spare_whole in
    record {
      sized = subst (λ k. IsSized k c.loop-row.row c.loop-row.survey) (sym sized.geometry_is) sized;
      row_in = fits.row_in;
      body_whole = fits.body_whole;
      spare_whole = fits.spare_whole;
    }

pub loop-row-preserved : goal.loop-row-preserved
loop-row-preserved g c =
    let geo = c.args.geometry.now in
    let inv = c.loop-row.invariant in
    let read = c.in_ok-read_page.ensures in
    record {
      told = λ honest. read.recorded (inv.only_reads.honest_is ∙ honest) ∙ inv.told honest;
      only_reads = reads_then _ _ _ _ inv.only_reads (record { geometry_is = read.geometry; honest_is = read.honest; calm_is = read.calm; programs_are = read.programs; erases_are = read.erases; failed_is = read.failed });
      sized = sized_more geo c.loop-row.row c.loop-row.survey c.see.new.self inv.sized.geometry_is c.see.ensures.sized;
      same = λ honest. read.same (inv.only_reads.honest_is ∙ honest) ∙ inv.same honest;
      whole = λ below honest. whole_of geo (g.S.PageSource.view.flash c.read_page.new.self) (read.geometry ∙ (inv.only_reads.geometry_is ∙ c.requires.same_geometry)) (read.whole (inv.only_reads.honest_is ∙ honest));
      reads = reads_next _ _ _ _ inv.reads read.reads;
      seen = λ honest. seen geo (g.S.PageSource.view.flash c.args.source.now) (g.S.PageSource.view.flash c.loop-row.source) c.loop-row.row
          c.loop-row.survey c.see.new.self _ (inv.seen honest) (inv.same honest) (read.page (inv.only_reads.honest_is ∙ honest)) inv.sized.geometry_is
          c.see.ensures.survey;
    }

pub returns-in_err-survey : goal.returns-in_err-survey
returns-in_err-survey g c =
    let p = err_from_is_err_and c.from_residual.result c.from_residual.ensures.1 in
    rw (p.1, p.2) (record {
      sized = tt;
      surveys = tt;
      whole = tt;
      stops = inr refl;
      same = λ other honest. refl;
      told = tt;
      only_reads = reads_none _ _;
      reads = reads_same _ _;
      rose = λ is. absurd (memory_not_source (same_refusal _ _ _ refl is));
    })

pub returns-in_err-read_page : goal.returns-in_err-read_page
returns-in_err-read_page g c =
    let p = err_from_is_err_and c.from_residual-in_err-read_page.result c.from_residual-in_err-read_page.ensures.1 in
    let inv = c.loop-row.invariant in
    let read = c.read_page.ensures in
    rw (p.1, p.2) (record {
      sized = tt;
      surveys = tt;
      whole = tt;
      stops = inl refl;
      same = λ other. absurd (other refl);
      told = tt;
      only_reads = reads_then _ _ _ _ inv.only_reads (record { geometry_is = read.geometry; honest_is = read.honest; calm_is = read.calm; programs_are = read.programs; erases_are = read.erases; failed_is = read.failed });
      reads = reads_stopped _ _ _ _ _ _ inv.reads read.reads c.loop-row-test.true c.rows-row-end.ensures;
      rose = λ is. risen_over _ _ _ inv.only_reads.failed_is c.in_err-read_page.ensures.rose;
    })

pub returns : goal.returns
returns g c =
    let geo = c.args.geometry.now in
    let inv = c.loop-row.invariant in
    let first = g.S.PageSource.view.flash c.args.source.now in
    let end : c.loop-row.row ≡ row_count geo = at_end _ _ _ c.loop-row.auto.row-end c.loop-row-test.false c.rows-row-end.ensures in
    let whole = inv.whole (subst (λ k. 0 < k) (sym end) (some_rows geo)) in
    record {
      sized = subst (λ k. IsSized geo k c.loop-row.survey) end inv.sized;
      surveys = λ honest. surveys_of geo first (g.S.PageSource.view.flash c.loop-row.source) c.loop-row.survey (inv.same honest) (whole honest)
          (subst (λ k. IsSurvey geo first.image k c.loop-row.survey) end (inv.seen honest));
      whole = λ honest. subst (λ (f : Flash). IsImage geo f.image) (inv.same honest) (whole honest);
      stops = tt;
      same = λ other. inv.same;
      told = inv.told;
      only_reads = inv.only_reads;
      reads = reads_to _ _ _ _ inv.reads end;
      rose = λ is. absurd (given_not _ _ _ refl is);
    }
