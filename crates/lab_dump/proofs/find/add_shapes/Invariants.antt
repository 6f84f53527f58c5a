use Rattle.std.proofs.Common.{◌≡◌, ◌++◌, All, take}
use Rattle.std.specs.List.{flat_map}
use Rattle.page_layout.specs.Limits.{IsPageCount}
use Rattle.lab_dump.specs.Shape.{page_counts}
use Rattle.lab_dump.specs.Fits.{shape_fits, AddsFits}
use Rattle.std.specs.Prelude.{vec_capacity}
use Rattle.lab_dump.proofs.find.add_shapes.Given as goal

abbrev pub invariant-loop-pages : goal.invariant-loop-pages
invariant-loop-pages l = record {
  counts : All IsPageCount l.pages-items;
  items : l.pages-items ≡ page_counts;
  added : l.fits.items ≡ l.fn.fits.items ++ flat_map (shape_fits l.size l.data_bytes l.spare_bytes l.sample l.told) (take l.pages-index page_counts);
  any : AddsFits l.pages-index l.fn.fits.items l.fits.items;
  places : vec_capacity l.fits ≡ vec_capacity l.fn.fits;
}
