use Rattle.std.proofs.Common.{◌≡◌, All, take, false}
use Rattle.std.specs.List.{list_any}
use Rattle.page_layout.specs.Limits.{IsPageCount}
use Rattle.lab_dump.specs.Shape.{page_counts, is_shape}
use Rattle.lab_dump.proofs.shape.first_shape.Given as goal

abbrev pub invariant-loop-pages : goal.invariant-loop-pages
invariant-loop-pages l = record {
  counts : All IsPageCount l.pages-items;
  items : l.pages-items ≡ page_counts;
  none : list_any (is_shape l.size l.data_bytes l.spare_bytes) (take l.pages-index page_counts) ≡ false;
}
