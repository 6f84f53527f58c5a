use Rattle.std.proofs.Common.{◌+◌, ◌∙◌, ℕ, All, List, ap, get_or, arith, subst, sym}
use Rattle.std.proofs.lemmas.List.Elements.{All-get_or}
use Rattle.page_layout.specs.Limits.{IsPageCount}
use Rattle.lab_dump.proofs.FitLemmas.{adds_then, more_at}
use Rattle.lab_dump.specs.Shape.{page_counts}
use Rattle.lab_dump.specs.Fits.{shape_fits}
use Rattle.lab_dump.proofs.find.add_shapes.Goals as goal

pub add_shape-requires-clause-page_count : goal.add_shape-requires-clause-page_count
unfolding page_counts
add_shape-requires-clause-page_count c =
    let inv = c.loop-pages.invariant in
    let i = c.loop-pages.pages-index in
    subst (λ (l : List ℕ). IsPageCount (get_or l i 0)) (sym inv.items)
    (All-get_or IsPageCount page_counts i 0 c.loop-pages-test.true (subst (λ (l : List ℕ). All IsPageCount l) inv.items inv.counts))

pub loop-pages-preserved : goal.loop-pages-preserved
unfolding page_counts
loop-pages-preserved c =
    let inv = c.loop-pages.invariant in
    let i = c.loop-pages.pages-index in
    record {
      counts = inv.counts;
      items = inv.items;
      added = more_at (shape_fits c.args.size c.args.data_bytes c.args.spare_bytes c.args.sample c.args.told) c.args.fits.now.items page_counts i 0
          (get_or c.page_counts-pages-items.result i 0) c.loop-pages.fits.items _ c.loop-pages-test.true (ap (λ l. get_or l i 0) inv.items) inv.added
          c.add_shape.ensures.added;
      any = adds_then i 1 (i + 1) _ _ _ inv.any c.add_shape.ensures.any (omega arith);
      places = c.add_shape.ensures.places ∙ inv.places;
    }
