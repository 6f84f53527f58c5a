-- What the definitions come to, each law as one statement.
use Rattle.std.specs.Prelude.{◌≡◌, ℕ, ◌<◌, List, length}
use Rattle.page_layout.specs.declared.geometry.Geometry.{Geometry}
use Rattle.page_layout.specs.Geometry.{row_count}
use Rattle.lab_dump.specs.Scan.{image_bytes}
use Rattle.lab_dump.specs.PageBytes.{page_from_bytes}
use Rattle.lab_dump.specs.Pages.{dump_page_at}
use Rattle.lab_arrange.specs.declared.arrangement.Arrangement.{Arrangement}
use Rattle.lab_arrange.specs.Arranged.{arranged_piece}
use Rattle.lab_shapes.specs.Ordered.{ordered}

-- The dump put in order has a page for each row, and that is the one that `arrange` writes.
pub record IsOrdered (g : Geometry) (a : Arrangement) (all : List ℕ) : Type 0 where
  pub size : length (ordered g a all) ≡ image_bytes g
  pub pages : (row : ℕ) → row < row_count g → dump_page_at g.data_bytes g.spare_bytes (ordered g a all) row ≡ page_from_bytes g.data_bytes (arranged_piece g a all row)

abbrev pub OrderedLaw : Type 0
OrderedLaw = (g : Geometry) (a : Arrangement) (all : List ℕ) → IsOrdered g a all
