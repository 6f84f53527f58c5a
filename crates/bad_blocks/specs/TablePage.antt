-- The layout of a table page: for each block one little-endian word of four bytes, its class in the low byte and its
-- erase count in the other three. Words past the last block are FFFFFFFFh.
use Rattle.std.specs.Prelude.{◌≡◌, ◌⊎◌, ℕ, ◌+◌, ◌*◌, ◌%◌, ◌<◌, ◌≤◌, ◌==◌, nat_lt, Bool, true, false, if◌then◌else◌, List, length, map, Option, Some}
use Rattle.std.specs.Prelude.{None, slice_get}
use Rattle.std.specs.List.{flat_map, range_with_len}
use Rattle.std.specs.Int.{w32, to_le_bytes}
use Rattle.page_layout.specs.Word.{word_at}
use Rattle.bad_blocks.specs.declared.class.Class.{Class}
use Rattle.bad_blocks.specs.declared.class.Class.TheVariants.{Good, Factory, Grown}
use Rattle.bad_blocks.specs.declared.table.TableRow.{TableRow}
use Rattle.bad_blocks.specs.declared.table.page.TableFault.{TableFault}
use Rattle.bad_blocks.specs.declared.table.page.TableFault.TheVariants.{BadClass, BadPadding}

abbrev pub code_of_class : Class → ℕ
code_of_class Good = 0
code_of_class Factory = 1
code_of_class Grown = 2

-- the word of a block
abbrev pub word_of : TableRow → ℕ
word_of row = code_of_class row.class + 256 * row.wear

abbrev pub padding : ℕ
padding = 0xffff_ffff

abbrev pub word_or_padding : Option TableRow → ℕ
word_or_padding None = padding
word_or_padding (Some row) = word_of row

-- the word of block b in a table of these rows
abbrev pub table_word : List TableRow → ℕ → ℕ
table_word rows b = word_or_padding (slice_get rows b)

-- ---- one spelling

-- the bytes of a word, the low one first
unfoldable pub word_bytes : ℕ → List ℕ
word_bytes n = to_le_bytes w32 n

-- the bytes of table page u, of so many entries: the words of the blocks from u * entries on.
-- Law: these are the bytes of which `IsTablePage` holds, and a page that is spelled by two tables of one length has the
-- same rows in both (`TableBytesLaw`, `TableRowsLaw`).
unfoldable pub table_bytes : ℕ → List TableRow → ℕ → List ℕ
table_bytes entries rows u = flat_map word_bytes (map (table_word rows) (range_with_len (u * entries) entries))

-- the bytes are table page u of the table, word by word
pub record IsTablePage (entries : ℕ) (rows : List TableRow) (u : ℕ) (bytes : List ℕ) : Type 0 where
  pub whole : length bytes ≡ 4 * entries
  pub words : (i : ℕ) → i < entries → word_at bytes (4 * i) ≡ table_word rows (u * entries + i)

-- ---- what is wrong with a page

-- whether a word may stand for block b of a die with so many blocks
abbrev pub is_right : ℕ → ℕ → ℕ → Bool
is_right blocks b word = if nat_lt b blocks then nat_lt (word % 256) 3 else word == padding

-- each word of table page u is right
pub record IsWellFormed (entries blocks u : ℕ) (bytes : List ℕ) : Type 0 where
  pub right : (i : ℕ) → i < entries → is_right blocks (u * entries + i) (word_at bytes (4 * i)) ≡ true

-- the lowest wrong word of table page u, and what is wrong with it
pub record IsFirstWrongWord (entries blocks u : ℕ) (bytes : List ℕ) (fault : TableFault) : Type 0 where
  pub place : ℕ
  pub within : place < entries
  pub wrong : is_right blocks (u * entries + place) (word_at bytes (4 * place)) ≡ false
  pub before : (i : ℕ) → i < place → is_right blocks (u * entries + i) (word_at bytes (4 * i)) ≡ true
  pub fault_is : (if nat_lt (u * entries + place) blocks then BadClass else BadPadding) ≡ fault

-- the rows of blocks outside table page u are as they were
pub record KeepsOthers (entries u : ℕ) (old new : List TableRow) : Type 0 where
  pub length_same : length new ≡ length old
  pub others : (b : ℕ) → (b < u * entries) ⊎ (u * entries + entries ≤ b) → slice_get new b ≡ slice_get old b
