use Rattle.std.proofs.Common.{refl, Err, ap, inl}
use Rattle.std.proofs.lemmas.Result.{err_from_is_err_and}
use Rattle.image_check.specs.Surveyed.{SurveysPairs}
use Rattle.image_check.proofs.JudgeLemmas.{keys_after}
use Rattle.image_check.proofs.RefusalLemmas.{same_refusal}
use Rattle.mount.proofs.MountLemmas.{own_sized, shown_sized, orderly_at, states_at, pairs_after, tables_of}
use Rattle.mount.proofs.RefuseLemmas.{no_claim, survey_refused, spent_refused, given_not, of_mounting, stop_of_mounting, next_not_source, image_not_source}
use Rattle.mount.proofs.mount_pages.show_pages.Goals as goal

pub survey_pages-requires : goal.survey_pages-requires
survey_pages-requires g c = record { same_geometry = c.requires.same_geometry; body_whole = c.requires.body_whole; spare_whole = c.requires.spare_whole }

pub describe_blocks-requires : goal.describe_blocks-requires
describe_blocks-requires g c = own_sized c.args.geometry.now c.in_ok-survey.survey c.in_ok-survey.ensures.sized

pub returns-in_err-survey : goal.returns-in_err-survey
returns-in_err-survey g c =
    let p = err_from_is_err_and c.from_residual.result c.from_residual.ensures.1 in
    let made = c.in_err-survey.ensures in
    rw (p.1, p.2) (record {
      sized = tt;
      shown = tt;
      whole = tt;
      err = λ honest capacity. inl made.stops;
      only = stop_of_mounting _ made.stops;
      same = λ other. made.same (λ is. other (ap Err (same_refusal _ _ _ refl is)));
      told = tt;
      only_reads = made.only_reads;
      reads = made.reads;
      rose = λ is. made.rose (ap Err (same_refusal _ _ _ refl is));
    })

pub returns-in_err-blocks : goal.returns-in_err-blocks
returns-in_err-blocks g c =
    let p = err_from_is_err_and c.from_residual-in_err-blocks.result c.from_residual-in_err-blocks.ensures.1 in
    let s = c.in_ok-survey.survey in
    let made = c.in_ok-survey.ensures in
    let no = c.in_err-blocks.ensures in
    rw (p.1, p.2) (record {
      sized = tt;
      shown = tt;
      whole = tt;
      err = λ honest capacity. survey_refused c.args.geometry.now s.geometry capacity (g.S.PageSource.view.flash c.args.source.now).image s _ made.sized.geometry_is (made.surveys honest) no.kind no.err;
      only = of_mounting _ no.kind;
      same = λ other. made.same (given_not _ _ _ refl);
      told = tt;
      only_reads = made.only_reads;
      reads = made.reads;
      rose = λ is. absurd (image_not_source _ no.kind (same_refusal _ _ _ refl is));
    })

pub returns-in_err-next : goal.returns-in_err-next
returns-in_err-next g c =
    let p = err_from_is_err_and c.from_residual-in_err-next.result c.from_residual-in_err-next.ensures.1 in
    let geo = c.args.geometry.now in
    let image = (g.S.PageSource.view.flash c.args.source.now).image in
    let s = c.in_ok-survey.survey in
    let made = c.in_ok-survey.ensures in
    let no = c.in_err-next.ensures.err in
    rw (p.1, p.2, no.0) (record {
      sized = tt;
      shown = tt;
      whole = tt;
      err = λ honest capacity.
          let pairs : SurveysPairs geo image c.deref.result.now = pairs_after geo image s c.describe_blocks.new.survey c.deref.result.now (made.surveys honest) c.in_ok-blocks.ensures.permutation c.deref.ensures.value in
          let right = orderly_at geo s.geometry image s made.sized.geometry_is (made.surveys honest) c.in_ok-blocks.ensures.ok capacity (no_claim geo) in
          spent_refused geo capacity image _ refl (no.1 geo image pairs) right;
      only = tt;
      same = λ other. made.same (given_not _ _ _ refl);
      told = tt;
      only_reads = made.only_reads;
      reads = made.reads;
      rose = λ is. absurd (next_not_source (same_refusal _ _ _ refl is));
    })

pub returns : goal.returns
returns g c =
    let geo = c.args.geometry.now in
    let image = (g.S.PageSource.view.flash c.args.source.now).image in
    let s = c.in_ok-survey.survey in
    let new = c.describe_blocks.new.survey in
    let made = c.in_ok-survey.ensures in
    let blocks = c.in_ok-blocks.ensures in
    let is = made.sized.geometry_is in
    record {
      sized = shown_sized geo s new _ made.sized blocks.others refl blocks.size blocks.fits;
      shown = λ honest.
          let surveys = made.surveys honest in
          let pairs : SurveysPairs geo image c.deref.result.now = pairs_after geo image s new c.deref.result.now surveys blocks.permutation c.deref.ensures.value in
          let orderly = orderly_at geo s.geometry image s is surveys blocks.ok in
          record {
            orderly = orderly;
            keys = keys_after geo image s new new.newest.items surveys blocks.others refl;
            states = states_at geo s.geometry image s _ is surveys blocks.states;
            next = c.in_ok-next.ensures.ok geo image pairs (tables_of geo image orderly);
          };
      whole = made.whole;
      err = tt;
      only = tt;
      same = λ other. made.same (given_not _ _ _ refl);
      told = made.told;
      only_reads = made.only_reads;
      reads = made.reads;
      rose = λ is. absurd (given_not _ _ _ refl is);
    }
