use Rattle.std.proofs.Common.{◌≡◌, ◌+◌, ap, ◌∙◌, arith, rules, ◌<◌}
use Rattle.page_layout.specs.Geometry.{row_count}
use Rattle.lab_dump.specs.Sample.{looked_count, looked_row}
use Rattle.lab_dump.proofs.SampleLemmas.{one, sample_more, sample_none, noted_few, noted_looked}
use Rattle.lab_shapes.specs.Ordered.{follows, is_in_turn, look_before, look_in, ordered, sample_first}
use Rattle.lab_shapes.proofs.LookLemmas.{looked_within, one_byte, one_few, turns_all, turns_more}
use Rattle.lab_shapes.proofs.looking.look_over.Goals as goal

pub loop-place-init : goal.loop-place-init
loop-place-init g c =
    record {
      raw_room = c.requires.raw_room;
      page_room = c.requires.page_room;
      few = (let is = c.none-sample.ensures.is in rw is (omega arith));
      few_turns = omega arith;
      looked_is = c.none-sample.ensures.looked;
      same = search rules;
      last = tt;
      sample = λ all told size. sample_none _ _ _ _ _ c.none-sample.ensures.is;
      turns = search rules;
    }

pub loop-place-preserved : goal.loop-place-preserved
loop-place-preserved g c =
    let inv = c.loop-place.invariant in
    let geo = c.args.geometry.now in
    let a = c.args.arrangement.now in
    let place = c.loop-place.place in
    let look = c.in_ok-look.look in
    let b = c.follows.result in
    let row = c.looked_row-row.ensures ∙ ap (λ k. looked_row k place) c.rows.ensures in
    let counted : c.loop-place.in_turn + c.from-in_turn.result ≡ c.loop-place.in_turn + one b = ap (λ k. c.loop-place.in_turn + k) (c.from-in_turn.ensures ∙ one_byte b) in
    record {
      raw_room = omega (arith, inv.raw_room, c.look_before.auto.raw, c.look_in_order.auto.raw);
      page_room = omega (arith, inv.page_room, c.look_before.auto.page, c.look_in_order.auto.page);
      few = (let more = noted_few c.loop-place.sample look in let is = c.noted-sample.ensures in let before = inv.few in rw is (omega arith));
      few_turns = omega (arith, inv.few_turns, counted, one_few b);
      looked_is = ap (λ x. x.looked) c.noted-sample.ensures ∙ (noted_looked c.loop-place.sample look ∙ inv.looked_is);
      same = c.look_in_order.ensures.same ∙ (c.look_before.ensures.same ∙ inv.same);
      last = λ all told size. c.in_ok-look.ensures.look all (c.look_before.ensures.same ∙ (inv.same ∙ told)) size;
      sample = λ all told size.
          sample_more geo.data_bytes geo.spare_bytes (row_count geo) (ordered geo a all) place c.loop-place.sample _ look (inv.sample all told size)
          (c.in_ok-look.ensures.look all (c.look_before.ensures.same ∙ (inv.same ∙ told)) size ∙ ap (look_in geo (ordered geo a all)) row) c.noted-sample.ensures;
      turns = λ all told size.
          counted ∙ turns_more geo (ordered geo a all) place c.loop-place.in_turn b (inv.turns all told size)
          (c.follows.ensures ∙ (ap (λ x. follows x look) (c.in_ok-before.ensures.before all (inv.same ∙ told) size)
          ∙ (ap (follows (look_before geo (ordered geo a all) c.looked_row-row.result)) (c.in_ok-look.ensures.look all (c.look_before.ensures.same ∙ (inv.same ∙ told)) size) ∙ ap (is_in_turn geo (ordered geo a all)) row)));
    }

pub returns-clause-sample : goal.returns-clause-sample
returns-clause-sample g c = λ all told size.
    let geo = c.args.geometry.now in
    let end = omega (arith, c.loop-place-test.false, c.loop-place.auto.place-end) ∙ c.none-sample.ensures.looked in
    c.loop-place.invariant.sample all told size ∙ ap (sample_first geo (ordered geo c.args.arrangement.now all)) end

pub returns-clause-turns : goal.returns-clause-turns
returns-clause-turns g c = λ all told size.
    let geo = c.args.geometry.now in
    turns_all geo (ordered geo c.args.arrangement.now all) c.loop-place.place c.loop-place.in_turn
    (omega (arith, c.loop-place-test.false, c.loop-place.auto.place-end) ∙ c.none-sample.ensures.looked) (c.loop-place.invariant.turns all told size)

pub look_before-requires-clause-row : goal.look_before-requires-clause-row
look_before-requires-clause-row g c =
    let geo = c.args.geometry.now in
    let row : c.looked_row-row.result ≡ looked_row (row_count geo) c.loop-place.place = c.looked_row-row.ensures ∙ ap (λ k. looked_row k c.loop-place.place) c.rows.ensures in
    let few : c.loop-place.place < looked_count (row_count geo) = omega (arith, c.loop-place-test.true, c.none-sample.ensures.looked) in
    let within = looked_within (row_count geo) c.loop-place.place few in
    omega (arith, row, within)

pub look_in_order-requires-clause-row : goal.look_in_order-requires-clause-row
look_in_order-requires-clause-row g c =
    let geo = c.args.geometry.now in
    let row : c.looked_row-row.result ≡ looked_row (row_count geo) c.loop-place.place = c.looked_row-row.ensures ∙ ap (λ k. looked_row k c.loop-place.place) c.rows.ensures in
    let few : c.loop-place.place < looked_count (row_count geo) = omega (arith, c.loop-place-test.true, c.none-sample.ensures.looked) in
    let within = looked_within (row_count geo) c.loop-place.place few in
    omega (arith, row, within)
