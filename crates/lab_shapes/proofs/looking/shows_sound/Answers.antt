use Rattle.std.proofs.Common.{◌≡◌, ◌<◌, ◌∙◌, ap, arith, rules}
use Rattle.page_layout.specs.Geometry.{row_count}
use Rattle.lab_dump.specs.Sample.{looked_count, looked_row}
use Rattle.lab_shapes.specs.Ordered.{ordered}
use Rattle.lab_shapes.proofs.LookLemmas.{looked_within, none_first, none_more, shows_none, shows_one}
use Rattle.lab_shapes.proofs.looking.shows_sound.Goals as goal

pub loop-place-init : goal.loop-place-init
loop-place-init g c = record {
  raw_room = c.requires.raw_room;
  page_room = c.requires.page_room;
  same = search rules;
  none = λ all told size. none_first c.args.geometry.now (ordered c.args.geometry.now c.args.arrangement.now all);
}

pub is_sound_in_order-requires-clause-row : goal.is_sound_in_order-requires-clause-row
is_sound_in_order-requires-clause-row g c =
    let geo = c.args.geometry.now in
    let row : c.looked_row-row.result ≡ looked_row (row_count geo) c.loop-place.place = c.looked_row-row.ensures ∙ ap (λ k. looked_row k c.loop-place.place) c.rows-rows.ensures in
    let few : c.loop-place.place < looked_count (row_count geo) = omega (arith, c.loop-place-test.true, c.min-place-end.ensures, c.rows-rows.ensures) in
    let within = looked_within (row_count geo) c.loop-place.place few in
    omega (arith, row, within)

pub returns-then-branch-clause-shows : goal.returns-then-branch-clause-shows
returns-then-branch-clause-shows g c = λ all told size.
    let geo = c.args.geometry.now in
    let place = c.loop-place.place in
    let row : c.looked_row-row.result ≡ looked_row (row_count geo) place = c.looked_row-row.ensures ∙ ap (λ k. looked_row k place) c.rows-rows.ensures in
    shows_one geo (ordered geo c.args.arrangement.now all) place c.looked_row-row.result c.in_ok-is_sound_in_order.field-0 row
    (c.in_ok-is_sound_in_order.ensures.sound all (c.loop-place.invariant.same ∙ told) size) c.if-branch.true (omega (arith, c.loop-place-test.true, c.min-place-end.ensures, c.rows-rows.ensures))

pub loop-place-preserved : goal.loop-place-preserved
loop-place-preserved g c =
    let inv = c.loop-place.invariant in
    let geo = c.args.geometry.now in
    let place = c.loop-place.place in
    let row : c.looked_row-row.result ≡ looked_row (row_count geo) place = c.looked_row-row.ensures ∙ ap (λ k. looked_row k place) c.rows-rows.ensures in
    record {
      raw_room = omega (arith, inv.raw_room, c.is_sound_in_order.auto.raw);
      page_room = omega (arith, inv.page_room, c.is_sound_in_order.auto.page);
      same = c.is_sound_in_order.ensures.same ∙ inv.same;
      none = λ all told size.
          none_more geo (ordered geo c.args.arrangement.now all) place c.looked_row-row.result c.in_ok-is_sound_in_order.field-0 row
          (c.in_ok-is_sound_in_order.ensures.sound all (inv.same ∙ told) size) c.if-branch.false (inv.none all told size);
    }

pub returns-clause-shows : goal.returns-clause-shows
returns-clause-shows g c = λ all told size.
    let geo = c.args.geometry.now in
    shows_none geo (ordered geo c.args.arrangement.now all) c.loop-place.place (omega (arith, c.loop-place-test.false, c.loop-place.auto.place-end, c.min-place-end.ensures, c.rows-rows.ensures)) (c.loop-place.invariant.none all told size)
