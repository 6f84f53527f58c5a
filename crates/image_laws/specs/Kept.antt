-- What a table page that is read, and a format, leave as it was.
use Rattle.std.specs.Prelude.{◌≡◌, ◌≢◌, ◌⊎◌, ℕ, ◌+◌, ◌*◌, ◌/◌, ◌<◌, true, List, slice_get}
use Rattle.page_layout.specs.declared.geometry.Geometry.{Geometry}
use Rattle.page_layout.specs.Geometry.{row_count, table_pages}
use Rattle.page_layout.specs.Flash.{Flash, Operation}
use Rattle.promises.specs.Log.{failed_in}
use Rattle.bad_blocks.specs.declared.table.TableRow.{TableRow}
use Rattle.bad_blocks.specs.Marks.{is_marked}
use Rattle.bad_blocks.specs.TablePage.{KeepsOthers}
use Rattle.mount.specs.Formatted.{HasTable, IsFormatted, is_good_after}

-- OTHER PAGES' ROWS STAY: row i of table page v, where page u was read
abbrev pub OtherTableRowsLaw : Type 0
OtherTableRowsLaw = (entries u v i : ℕ) (old new : List TableRow) → KeepsOthers entries u old new → v ≢ u → i < entries
    → slice_get new (v * entries + i) ≡ slice_get old (v * entries + i)

-- NO OTHER PAGE OF A GOOD BLOCK is changed by a format than the table pages
abbrev pub OtherPagesLaw : Type 0
OtherPagesLaw = (g : Geometry) (needed : ℕ) (old new : Flash) (good row : ℕ) (f : IsFormatted g needed old new good) → row < row_count g → is_good_after g old.image f.log (row / g.pages) ≡ true
    → ((u : ℕ) → u < table_pages g → row ≢ f.block * g.pages + u) → slice_get new.image row ≡ slice_get old.image row

-- THE TABLE STANDS AS LOW AS IT CAN: each block below it was marked, or a program failed in it
abbrev pub LowestTableLaw : Type 0
LowestTableLaw = (g : Geometry) (old new : Flash) (log : List Operation) (block lower : ℕ) → HasTable g old new log block → lower < block
    → (is_marked g old.image lower ≡ true) ⊎ (failed_in g.pages log lower ≡ true)
