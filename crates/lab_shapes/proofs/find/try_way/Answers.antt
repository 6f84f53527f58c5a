use Rattle.std.proofs.Common.{◌≡◌, ◌∙◌, ap, take, get_or, arith, rules}
use Rattle.lab_dump.specs.Shape.{data_sizes}
use Rattle.lab_shapes.specs.Better.{InWay}
use Rattle.lab_shapes.proofs.BetterLemmas.{improves_all, improves_more, improves_start, possible_then}
use Rattle.lab_shapes.proofs.FindLemmas.{data_among, data_of}
use Rattle.lab_shapes.proofs.find.try_way.Goals as goal

pub loop-data_bytes-init : goal.loop-data_bytes-init
loop-data_bytes-init g c = record {
  sizes = c.data_sizes-data_bytes-items.ensures.sizes;
  items = c.data_sizes-data_bytes-items.ensures.is;
  room = c.requires.room;
  same = search rules;
  possible = λ h. h;
  better = λ all told size. improves_start (InWay all c.args.way.now) data_of data_sizes c.args.room.now.best;
}

pub loop-data_bytes-preserved : goal.loop-data_bytes-preserved
unfolding data_sizes
loop-data_bytes-preserved g c =
    let inv = c.loop-data_bytes.invariant in
    let i = c.loop-data_bytes.data_bytes-index in
    record {
      sizes = inv.sizes;
      items = inv.items;
      room = c.try_data.ensures.room;
      same = c.try_data.ensures.same ∙ inv.same;
      possible = possible_then _ _ _ inv.possible c.in_ok-try_data.ensures.possible;
      better = λ all told size. improves_more (InWay all c.args.way.now) data_of data_sizes i 0 (get_or c.data_sizes-data_bytes-items.result i 0) _ _
          _ c.loop-data_bytes-test.true (ap (λ l. get_or l i 0) inv.items) (inv.better all told size)
          (c.in_ok-try_data.ensures.better all (inv.same ∙ told) size);
    }

pub returns-clause-better : goal.returns-clause-better
unfolding data_sizes
returns-clause-better g c = λ all told size.
    let last : c.loop-data_bytes.data_bytes-index ≡ 7 = omega (arith, c.loop-data_bytes-test.false, c.loop-data_bytes.auto.data_bytes-index-end) in
    improves_all (InWay all c.args.way.now) data_of data_sizes _ _ _ (ap (λ n. take n data_sizes) last) (λ y q. data_among all y q.0) (c.loop-data_bytes.invariant.better all told size)
