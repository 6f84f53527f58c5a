use Rattle.std.proofs.Common.{ap, ◌∙◌, arith, rules}
use Rattle.page_layout.specs.Geometry.{row_count}
use Rattle.std.proofs.lemmas.Result.{err_from_is_err_and}
use Rattle.page_layout.specs.PageLook.{look_of}
use Rattle.lab_dump.specs.Sample.{looked_row, look_at}
use Rattle.lab_dump.proofs.SampleLemmas.{looked_few, sample_more, sample_none, sample_all, noted_few, noted_looked}
use Rattle.lab_dump.proofs.sample.take_sample.Goals as goal

pub loop-place-init : goal.loop-place-init
loop-place-init g c = record {
  whole = c.requires;
  looked_is = c.none-sample.ensures.looked;
  few = (let is = c.none-sample.ensures.is in rw is (omega arith));
  same = search rules;
  sample = λ all told. sample_none _ _ _ all _ c.none-sample.ensures.is;
}

pub loop-place-preserved : goal.loop-place-preserved
loop-place-preserved g c =
    let inv = c.loop-place.invariant in
    let geo = c.args.geometry.now in
    let place = c.loop-place.place in
    let row = c.looked_row.ensures ∙ ap (λ k. looked_row k place) c.rows.ensures in
    record {
      whole = search rules;
      looked_is = ap (λ x. x.looked) c.noted-sample.ensures ∙ (noted_looked c.loop-place.sample c.in_ok-look.look ∙ inv.looked_is);
      few = (let more = noted_few c.loop-place.sample c.in_ok-look.look in let is = c.noted-sample.ensures in let before = inv.few in rw is (omega arith));
      same = c.look_at_row.ensures.same ∙ inv.same;
      sample = λ all told. sample_more geo.data_bytes geo.spare_bytes (row_count geo) all place c.loop-place.sample _ c.in_ok-look.look (inv.sample all told)
          (c.in_ok-look.ensures.look ∙ (ap look_of (c.in_ok-look.ensures.read all (inv.same ∙ told)) ∙ ap (look_at geo.data_bytes geo.spare_bytes all) row)) c.noted-sample.ensures;
    }

pub returns : goal.returns
returns g c = record {
  sample = λ all told.
      let geo = c.args.geometry.now in
      sample_all geo.data_bytes geo.spare_bytes (row_count geo) c.loop-place.place all c.loop-place.sample
      (omega (arith, c.loop-place-test.false, c.loop-place.auto.place-end) ∙ c.none-sample.ensures.looked) (c.loop-place.invariant.sample all told);
  few = looked_few _ _ _ c.loop-place.sample c.loop-place.invariant.few c.loop-place.auto.place-end c.none-sample.ensures.looked c.loop-place.invariant.looked_is;
  failed = tt;
  same = c.loop-place.invariant.same;
}

pub returns-in_err-look : goal.returns-in_err-look
returns-in_err-look g c =
    let p = err_from_is_err_and c.from_residual.result c.from_residual.ensures.1 in
    rw p.1 (record { sample = tt; few = tt; failed = c.in_err-look.ensures.failed; same = c.look_at_row.ensures.same ∙ c.loop-place.invariant.same })
