-- The state of each block, as an image shows it.
use Rattle.std.specs.Prelude.{◌≡◌, ◌<◌, ℕ, ◌*◌, ◌/◌, ◌%◌, ◌==◌, ◌&&◌, ◌||◌, max, min, not, nat_le, Bool, if◌then◌else◌, List, [], length, Option}
use Rattle.std.specs.Prelude.{Some, None, slice_get, slice_index}
use Rattle.std.specs.List.{list_all, list_any, range_with_len}
use Rattle.page_layout.specs.declared.geometry.Geometry.{Geometry}
use Rattle.page_layout.specs.declared.record.Key.TheVariants.{Table}
use Rattle.page_layout.specs.Geometry.{entries}
use Rattle.page_layout.specs.Page.{Image, body_at}
use Rattle.page_layout.specs.Sound.{is_erased_page}
use Rattle.page_layout.specs.Block.{block_pages, is_programmed, is_broken, has_gap, written, top_wear, begins_data, last_sequence}
use Rattle.page_layout.specs.Newest.{newest}
use Rattle.page_layout.specs.Live.{live}
use Rattle.page_layout.specs.Array.{marks}
use Rattle.page_layout.specs.Word.{word_at}
use Rattle.bad_blocks.specs.declared.table.TableRow.{TableRow}
use Rattle.bad_blocks.specs.TablePage.{table_word}
use Rattle.certificate.specs.declared.block_state.BlockState.{BlockState}

-- ---- the newest table

-- the data area of the page at a place, or nothing where there is no page
abbrev pub body_in : Image → Option ℕ → List ℕ
body_in image None = []
body_in image (Some row) = body_at image row

-- the data area of newest table page u
unfoldable pub table_body : Image → ℕ → List ℕ
table_body image u = body_in image (newest (marks image) (Table u))

-- the word that the newest table has for a block
unfoldable pub word_of_block : Geometry → Image → ℕ → ℕ
word_of_block g image block = word_at (table_body image (block / entries g)) (4 * (block % entries g))

abbrev pub table_class : Geometry → Image → ℕ → ℕ
table_class g image block = word_of_block g image block % 256

abbrev pub table_wear : Geometry → Image → ℕ → ℕ
table_wear g image block = word_of_block g image block / 256

-- ---- classes

abbrev pub is_factory : Geometry → Image → ℕ → Bool
is_factory g image block = table_class g image block == 1

-- not a factory bad block, and the table says so or its pages show it
abbrev pub is_grown : Geometry → Image → ℕ → Bool
is_grown g image block =
    not (is_factory g image block) && (table_class g image block == 2 || list_any is_broken (block_pages g image block) || has_gap (block_pages g image block))

unfoldable pub is_good_block : Geometry → Image → ℕ → Bool
is_good_block g image block = not (is_factory g image block) && not (is_grown g image block)

unfoldable pub is_shown_free : Geometry → Image → ℕ → Bool
is_shown_free g image block = is_good_block g image block && list_all is_erased_page (block_pages g image block)

-- a good block with some pages erased and some not
unfoldable pub is_partial : Geometry → Image → ℕ → Bool
is_partial g image block =
    is_good_block g image block && list_any is_erased_page (block_pages g image block) && list_any is_programmed (block_pages g image block)

-- page 0 says that the block is of the data stream, else it is of the meta stream
abbrev pub is_of_data : Geometry → Image → ℕ → Bool
is_of_data g image block = begins_data (block_pages g image block)

-- the sequence of the block's last programmed page
abbrev pub sequence_of_last : Geometry → Image → ℕ → ℕ
sequence_of_last g image block = last_sequence (block_pages g image block)

abbrev pub same_test : Bool → Bool → Bool
same_test a b = if a then b else not b

-- block c is no rival of block b: it isn't partial and of the same stream with a greater last sequence
abbrev pub is_no_rival : Geometry → Image → ℕ → ℕ → Bool
is_no_rival g image b c =
    not (is_partial g image c && same_test (is_of_data g image c) (is_of_data g image b)) || nat_le (sequence_of_last g image c) (sequence_of_last g image b)

-- a partial block whose last programmed page has the greatest sequence among the partial blocks of its stream
unfoldable pub is_shown_open : Geometry → Image → ℕ → Bool
is_shown_open g image block = is_partial g image block && list_all (is_no_rival g image block) (range_with_len 0 g.blocks)

-- 0 free, 1 open data, 2 open meta, 3 closed, 4 factory, 5 grown
unfoldable pub class : Geometry → Image → ℕ → ℕ
class g image block =
    if is_factory g image block then 4 else (
    if is_grown g image block then 5 else (
    if is_shown_free g image block then 0 else (
    if is_shown_open g image block then (if is_of_data g image block then 1 else 2) else 3)))

-- ---- the numbers of a block

-- the pages that aren't erased, of a block that isn't bad
unfoldable pub pointer : Geometry → Image → ℕ → ℕ
pointer g image block = if is_good_block g image block then written (block_pages g image block) else 0

-- the greatest of the newest table's count and the wear of the block's sound pages, at most 16777215
unfoldable pub erase_count : Geometry → Image → ℕ → ℕ
erase_count g image block = min (max (table_wear g image block) (top_wear (block_pages g image block))) 16777215

-- what a certificate has to say of a block
abbrev pub block_state : Geometry → Image → ℕ → BlockState
block_state g image block = record {
  class = class g image block;
  pointer = pointer g image block;
  live = live g (marks image) block;
  wear = erase_count g image block;
}

-- these are the states of the die's blocks
pub record AreStates (g : Geometry) (image : Image) (states : List BlockState) : Type 0 where
  pub size : length states ≡ g.blocks
  pub state : (b : ℕ) → b < g.blocks → slice_get states b ≡ Some (block_state g image b)

-- these bytes are the words of newest table page u
pub record IsTableBody (g : Geometry) (image : Image) (u : ℕ) (bytes : List ℕ) : Type 0 where
  pub same : (i : ℕ) → i < 4 * entries g → slice_index bytes i ≡ slice_index (table_body image u) i

-- a table whose rows are what the newest table pages say of the blocks
pub record IsTableOf (g : Geometry) (image : Image) (rows : List TableRow) : Type 0 where
  pub size : length rows ≡ g.blocks
  pub word : (b : ℕ) → b < g.blocks → word_of_block g image b ≡ table_word rows b
