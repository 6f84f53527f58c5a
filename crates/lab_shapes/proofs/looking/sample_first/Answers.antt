use Rattle.std.proofs.Common.{ap, ◌∙◌, arith, rules, ◌≡◌, ◌<◌}
use Rattle.page_layout.specs.Geometry.{row_count}
use Rattle.lab_dump.specs.Sample.{looked_count, looked_row}
use Rattle.lab_dump.proofs.SampleLemmas.{sample_more, sample_none, noted_few, noted_looked}
use Rattle.lab_shapes.specs.Ordered.{look_in, ordered}
use Rattle.lab_shapes.proofs.LookLemmas.{looked_within}
use Rattle.lab_shapes.proofs.looking.sample_first.Goals as goal

pub loop-place-init : goal.loop-place-init
loop-place-init g c =
    record {
      raw_room = c.requires.raw_room;
      page_room = c.requires.page_room;
      few = (let is = c.none-sample.ensures.is in rw is (omega arith));
      looked_is = c.none-sample.ensures.looked;
      same = search rules;
      sample = λ all told size. sample_none _ _ _ _ _ c.none-sample.ensures.is;
    }

pub loop-place-preserved : goal.loop-place-preserved
loop-place-preserved g c =
    let inv = c.loop-place.invariant in
    let geo = c.args.geometry.now in
    let a = c.args.arrangement.now in
    let place = c.loop-place.place in
    let row = c.looked_row-row.ensures ∙ ap (λ k. looked_row k place) c.rows.ensures in
    record {
      raw_room = omega (arith, inv.raw_room, c.look_in_order.auto.raw);
      page_room = omega (arith, inv.page_room, c.look_in_order.auto.page);
      few = (let more = noted_few c.loop-place.sample c.in_ok-look.look in let is = c.noted-sample.ensures in let before = inv.few in rw is (omega arith));
      looked_is = ap (λ x. x.looked) c.noted-sample.ensures ∙ (noted_looked c.loop-place.sample c.in_ok-look.look ∙ inv.looked_is);
      same = c.look_in_order.ensures.same ∙ inv.same;
      sample = λ all told size.
          sample_more geo.data_bytes geo.spare_bytes (row_count geo) (ordered geo a all) place c.loop-place.sample _ c.in_ok-look.look (inv.sample all told size)
          (c.in_ok-look.ensures.look all (inv.same ∙ told) size ∙ ap (look_in geo (ordered geo a all)) row) c.noted-sample.ensures;
    }

pub look_in_order-requires-clause-row : goal.look_in_order-requires-clause-row
look_in_order-requires-clause-row g c =
    let geo = c.args.geometry.now in
    let row : c.looked_row-row.result ≡ looked_row (row_count geo) c.loop-place.place = c.looked_row-row.ensures ∙ ap (λ k. looked_row k c.loop-place.place) c.rows.ensures in
    let few : c.loop-place.place < looked_count (row_count geo) = omega (arith, c.loop-place-test.true, c.requires.places) in
    let within = looked_within (row_count geo) c.loop-place.place few in
    omega (arith, row, within)
