-- What the table of blocks, its pages and the translation pages say, in plain data.
use Rattle.std.specs.Prelude.{◌≡◌, ℕ, ◌+◌, ◌*◌, ◌/◌, ◌%◌, ◌<◌, ◌≤◌, true, false, List, length, Some, None}
use Rattle.page_layout.specs.declared.geometry.Geometry.{Geometry}
use Rattle.page_layout.specs.declared.record.Key.TheVariants.{Table, Translation}
use Rattle.page_layout.specs.Geometry.{entries}
use Rattle.page_layout.specs.Page.{Image, body_at}
use Rattle.page_layout.specs.Newest.{newest}
use Rattle.page_layout.specs.Array.{marks}
use Rattle.page_layout.specs.Word.{row_of_word, word_at}
use Rattle.translation_pages.specs.Entry.{entry_of}
use Rattle.bad_blocks.specs.declared.class.Class.TheVariants.{Good, Factory, Grown}
use Rattle.bad_blocks.specs.declared.table.TableRow.{TableRow}
use Rattle.bad_blocks.specs.declared.table.page.TableFault.{TableFault}
use Rattle.bad_blocks.specs.Table.{class_at, wear_at, erased_once, retired}
use Rattle.bad_blocks.specs.TablePage.{word_of, is_right, IsWellFormed, IsFirstWrongWord, KeepsOthers}
use Rattle.image_check.specs.Blocks.{word_of_block}

-- A PAGE WITH A WRONG WORD isn't well formed
abbrev pub WrongWordLaw : Type 0
WrongWordLaw = (entries blocks u : ℕ) (bytes : List ℕ) (fault : TableFault) → IsFirstWrongWord entries blocks u bytes fault → ¬ IsWellFormed entries blocks u bytes

-- AS MANY ROWS stay as there were, whatever page is read
abbrev pub SameLengthLaw : Type 0
SameLengthLaw = (entries u : ℕ) (old new : List TableRow) → KeepsOthers entries u old new → length new ≡ length old

-- AN ERASE COUNTS ONE, and at 16777215 no more; the class stays, and a block that fails keeps its count and is grown bad
abbrev pub TableEraseCountLaw : Type 0
TableEraseCountLaw = (rows : List TableRow) (block : ℕ) → block < length rows
    → (wear_at rows block < 16777215 → wear_at (erased_once rows block) block ≡ wear_at rows block + 1)
    × (16777215 ≤ wear_at rows block → wear_at (erased_once rows block) block ≡ 16777215)
    × (class_at (erased_once rows block) block ≡ class_at rows block)
    × (wear_at (retired rows block) block ≡ wear_at rows block)
    × (class_at (retired rows block) block ≡ Grown)

-- A BLOCK'S WORD, of a good one that was never erased, a marked one with 5 erases and a grown bad one with 258
abbrev pub WordLaw : Type 0
WordLaw = (word_of (record { class = Good; wear = 0 }) ≡ 0) × (word_of (record { class = Factory; wear = 5 }) ≡ 0x501) × (word_of (record { class = Grown; wear = 258 }) ≡ 0x1_0202)

-- WHICH WORDS ARE RIGHT for the last block of four and for the place after it: class 2 is and class 3 isn't, and past the end FFFFFFFFh alone is
abbrev pub RightLaw : Type 0
RightLaw = (is_right 4 3 0x502 ≡ true) × (is_right 4 3 0x503 ≡ false) × (is_right 4 3 0xffff_ffff ≡ false) × (is_right 4 4 0xffff_ffff ≡ true) × (is_right 4 4 0 ≡ false)

-- THE TABLE'S WORD OF A BLOCK stands in the newest page of its table page, at the block's place in it
abbrev pub TableWordLaw : Type 0
TableWordLaw = (g : Geometry) (image : Image) (block row : ℕ) → newest (marks image) (Table (block / entries g)) ≡ Some row
    → word_of_block g image block ≡ word_at (body_at image row) (4 * (block % entries g))

-- A SECTOR'S ENTRY stands in the newest page of its translation page, at the sector's place in it; without such a page there is none
abbrev pub EntryLaw : Type 0
EntryLaw = (g : Geometry) (image : Image) (sector row : ℕ)
    → (newest (marks image) (Translation (sector / entries g)) ≡ None → entry_of g image sector ≡ None)
    × (newest (marks image) (Translation (sector / entries g)) ≡ Some row → entry_of g image sector ≡ row_of_word (word_at (body_at image row) (4 * (sector % entries g))))
