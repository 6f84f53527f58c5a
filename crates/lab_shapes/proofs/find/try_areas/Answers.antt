use Rattle.std.proofs.Common.{◌≡◌, ◌∙◌, ap, take, get_or, arith, rules}
use Rattle.lab_dump.specs.Shape.{page_counts}
use Rattle.lab_shapes.specs.Better.{InAreas}
use Rattle.lab_shapes.proofs.BetterLemmas.{improves_all, improves_more, improves_start, possible_then}
use Rattle.lab_shapes.proofs.FindLemmas.{pages_among, pages_of}
use Rattle.lab_shapes.proofs.find.try_areas.Goals as goal

pub loop-pages-init : goal.loop-pages-init
loop-pages-init g c = record {
  counts = c.page_counts-pages-items.ensures.counts;
  items = c.page_counts-pages-items.ensures.is;
  room = c.requires.room;
  same = search rules;
  possible = λ h. h;
  better = λ all told size. improves_start (InAreas all c.args.way.now c.args.data_bytes c.args.spare_bytes) pages_of page_counts c.args.room.now.best;
}

pub loop-pages-preserved : goal.loop-pages-preserved
unfolding page_counts
loop-pages-preserved g c =
    let inv = c.loop-pages.invariant in
    let i = c.loop-pages.pages-index in
    record {
      counts = inv.counts;
      items = inv.items;
      room = c.try_shape.ensures.room;
      same = c.try_shape.ensures.same ∙ inv.same;
      possible = possible_then _ _ _ inv.possible c.in_ok-try_shape.ensures.possible;
      better = λ all told size. improves_more (InAreas all c.args.way.now c.args.data_bytes c.args.spare_bytes) pages_of page_counts i 0
          (get_or c.page_counts-pages-items.result i 0) _ _ _ c.loop-pages-test.true (ap (λ l. get_or l i 0) inv.items) (inv.better all told size)
          (c.in_ok-try_shape.ensures.better all (inv.same ∙ told) size);
    }

pub returns-clause-better : goal.returns-clause-better
unfolding page_counts
returns-clause-better g c = λ all told size.
    let last : c.loop-pages.pages-index ≡ 7 = omega (arith, c.loop-pages-test.false, c.loop-pages.auto.pages-index-end) in
    improves_all (InAreas all c.args.way.now c.args.data_bytes c.args.spare_bytes) pages_of page_counts _ _ _ (ap (λ n. take n page_counts) last) (λ y q. pages_among all y q.0.0.0) (c.loop-pages.invariant.better all told size)
