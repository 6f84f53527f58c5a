use Rattle.std.proofs.Common.{◌/◌, ◌<◌, length, ap, ◌∙◌, arith, rules}
use Rattle.page_layout.specs.Geometry.{row_count}
use Rattle.page_layout.specs.PageLook.{look_of}
use Rattle.lab_dump.specs.Sample.{looked_count, looked_row, look_at}
use Rattle.lab_dump.proofs.SampleLemmas.{sample_more, sample_none, sample_all, noted_few, noted_looked}
use Rattle.lab_dump.proofs.FitLawLemmas.{looked_in}
use Rattle.lab_correct.specs.Decoded.{decoded_bytes, raw_size}
use Rattle.lab_correct.proofs.coded_look.sample_decoded.Goals as goal

pub loop-place-init : goal.loop-place-init
loop-place-init g c = record {
  raw_whole = c.requires.raw_whole;
  whole = c.requires.page_whole;
  looked_is = c.none-sample.ensures.looked;
  few = (let is = c.none-sample.ensures.is in rw is (omega arith));
  same = search rules;
  sample = λ all told rows. sample_none _ _ _ _ _ c.none-sample.ensures.is;
}

pub loop-place-preserved : goal.loop-place-preserved
loop-place-preserved g c =
    let inv = c.loop-place.invariant in
    let geo = c.args.geometry.now in
    let d = geo.data_bytes in
    let s = geo.spare_bytes in
    let row = c.looked_row-row.ensures ∙ ap (λ k. looked_row k c.loop-place.place) c.rows.ensures in
    record {
      raw_whole = search rules;
      whole = search rules;
      looked_is = ap (λ x. x.looked) c.noted-sample.ensures ∙ (noted_looked c.loop-place.sample c.look_in.result ∙ inv.looked_is);
      few = (let more = noted_few c.loop-place.sample c.look_in.result in let is = c.noted-sample.ensures in let before = inv.few in rw is (omega arith));
      same = c.read_decoded.ensures.same ∙ inv.same;
      sample = λ all told rows.
          let early : c.loop-place.place < looked_count (row_count geo) = omega (arith, c.loop-place-test.true, c.none-sample.ensures.looked) in
          let inside = looked_in (row_count geo) c.loop-place.place early in
          let within : c.looked_row-row.result < length all / raw_size d s = omega (arith, inside, row, rows) in
          sample_more d s (row_count geo) (decoded_bytes d s all) c.loop-place.place c.loop-place.sample _ c.look_in.result (inv.sample all told rows)
          (c.look_in.ensures ∙ (ap look_of (c.in_ok-read_decoded.ensures.read all (inv.same ∙ told) within) ∙ ap (look_at d s (decoded_bytes d s all)) row)) c.noted-sample.ensures;
    }

pub returns-clause-sample : goal.returns-clause-sample
returns-clause-sample g c = λ all told rows.
    let geo = c.args.geometry.now in
    sample_all geo.data_bytes geo.spare_bytes (row_count geo) c.loop-place.place (decoded_bytes geo.data_bytes geo.spare_bytes all) c.loop-place.sample
    (omega (arith, c.loop-place-test.false, c.loop-place.auto.place-end) ∙ c.none-sample.ensures.looked) (c.loop-place.invariant.sample all told rows)
