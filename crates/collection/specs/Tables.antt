-- What the newest table pages of an image tell of the table in memory.
use Rattle.std.specs.Prelude.{◌≡◌, ℕ, List, Some}
use Rattle.page_layout.specs.declared.geometry.Geometry.{Geometry}
use Rattle.page_layout.specs.declared.record.Key.TheVariants.{Table}
use Rattle.page_layout.specs.Page.{Image, body_at}
use Rattle.page_layout.specs.Geometry.{entries}
use Rattle.bad_blocks.specs.declared.table.TableRow.{TableRow}
use Rattle.bad_blocks.specs.TablePage.{table_bytes}
use Rattle.collection.specs.Pages.{newest_row}

-- the newest table page u spells the rows of its blocks, byte by byte
pub record SpellsTable (g : Geometry) (rows : List TableRow) (image : Image) (u : ℕ) : Type 0 where
  pub row : ℕ
  pub newest_is : newest_row image (Table u) ≡ Some row
  pub spelled : body_at image row ≡ table_bytes (entries g) rows u
