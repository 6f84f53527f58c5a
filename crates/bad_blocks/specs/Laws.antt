-- What holds of the layout of table pages.
use Rattle.std.specs.Prelude.{◌≡◌, ◌↔◌, ℕ, ◌+◌, ◌*◌, ◌<◌, ◌≤◌, List, All, length, slice_get, slice_index}
use Rattle.bad_blocks.specs.declared.table.TableRow.{TableRow}
use Rattle.bad_blocks.specs.Table.{HasFittingWear}
use Rattle.bad_blocks.specs.TablePage.{table_bytes, IsTablePage}

-- a table page is the one spelling of its table: bytes are the page word by word just where they are its bytes
abbrev pub TableBytesLaw : Type 0
TableBytesLaw = (entries : ℕ) (rows : List TableRow) (u : ℕ) (bytes : List ℕ) → All HasFittingWear rows → ((i : ℕ) → slice_index bytes i < 256) →
    IsTablePage entries rows u bytes ↔ (bytes ≡ table_bytes entries rows u)

-- tables of one length with the same page have the same rows in it
abbrev pub TableRowsLaw : Type 0
TableRowsLaw = (entries u : ℕ) (rows others : List TableRow) → All HasFittingWear rows → All HasFittingWear others → length rows ≡ length others →
    table_bytes entries rows u ≡ table_bytes entries others u → (b : ℕ) → u * entries ≤ b → b < u * entries + entries → slice_get rows b ≡ slice_get others b

-- no page begins another: they are of one length
abbrev pub TableLengthLaw : Type 0
TableLengthLaw = (entries u : ℕ) (rows : List TableRow) → length (table_bytes entries rows u) ≡ 4 * entries
