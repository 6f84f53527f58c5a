use Rattle.std.proofs.Common.{refl, ◌∙◌}
use Rattle.std.proofs.lemmas.Result.{err_from_is_err_and}
use Rattle.lab_dump.proofs.FitLemmas.{IsAsOf, adds_none, area_none, area_unsound, area_is}
use Rattle.lab_dump.proofs.find.add_areas.Goals as goal

pub returns-in_default : goal.returns-in_default
returns-in_default g c = record {
  added = λ all told size. area_none c.args.size c.args.data_bytes c.args.spare_bytes all _ size c.in_default.ensures.none;
  any = adds_none 7 _;
  places = refl;
  source = tt;
  same = refl;
}

pub returns-in_err-sample : goal.returns-in_err-sample
returns-in_err-sample g c =
    let p = err_from_is_err_and c.from_residual.result c.from_residual.ensures.1 in
    rw p.1 (record { added = tt; any = tt; places = tt; source = c.in_err-sample.ensures.failed; same = c.take_sample.ensures.same })

pub returns-then-sample-eq0 : goal.returns-then-sample-eq0
returns-then-sample-eq0 g c = record {
  added = λ all told size.
      let its = c.in-Some.ensures in
      let like : IsAsOf c.in-Some.geometry c.args.size c.args.data_bytes c.args.spare_bytes = record { data_is = its.areas.0; spare_is = its.areas.1; rows_is = its.rows } in
      area_unsound c.in-Some.geometry c.args.size c.args.data_bytes c.args.spare_bytes all c.in_ok-sample.sample _ like size its.some (c.in_ok-sample.ensures.sample all told) c.if-sample-eq0.true;
  any = adds_none 7 _;
  places = refl;
  source = tt;
  same = c.take_sample.ensures.same;
}

pub returns-in_err-told : goal.returns-in_err-told
returns-in_err-told g c =
    let p = err_from_is_err_and c.from_residual-in_err-told.result c.from_residual-in_err-told.ensures.1 in
    rw p.1 (record { added = tt; any = tt; places = tt; source = c.in_err-told.ensures.failed; same = c.read_told.ensures.same ∙ c.take_sample.ensures.same })

pub returns : goal.returns
returns g c = record {
  added = λ all told size.
      let its = c.in-Some.ensures in
      let like : IsAsOf c.in-Some.geometry c.args.size c.args.data_bytes c.args.spare_bytes = record { data_is = its.areas.0; spare_is = its.areas.1; rows_is = its.rows } in
      area_is c.in-Some.geometry c.args.size c.args.data_bytes c.args.spare_bytes all c.in_ok-sample.sample c.in_ok-told.told _ _ like size its.some (c.in_ok-sample.ensures.sample all told)
      (c.in_ok-told.ensures.told all (c.take_sample.ensures.same ∙ told)) c.if-sample-eq0.false c.add_shapes.ensures.added;
  any = c.add_shapes.ensures.any;
  places = c.add_shapes.ensures.places;
  source = tt;
  same = c.read_told.ensures.same ∙ c.take_sample.ensures.same;
}
