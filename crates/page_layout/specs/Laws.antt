-- What the definitions of pages and images come to, each law as one statement. A public function without a body has it as its contract.
use Rattle.std.specs.Prelude.{◌≡◌, ◌↔◌, ℕ, ◌≤◌, true, false, List, length, slice_get, count_by, sum_by, get_or, Option, Some, None, IsSome, ◌<◌, ◌/◌, min, ◌+◌}
use Rattle.std.specs.List.{range_with_len}
use Rattle.page_layout.specs.declared.record.Record.{Record}
use Rattle.page_layout.specs.declared.record.Key.{Key}
use Rattle.page_layout.specs.declared.geometry.Geometry.{Geometry}
use Rattle.std.specs.Int.{div_ceil}
use Rattle.page_layout.specs.Geometry.{entries, translation_pages, table_pages, vmax, need, key_count, waiting_at, IsShare, vmax_at, flush_blocks_at, need_at}
use Rattle.page_layout.specs.Page.{Page, Image, IsImage}
use Rattle.page_layout.specs.Sound.{AreFill, IsSound, record_of, is_erased_page}
use Rattle.page_layout.specs.Key.{key_of, key_eq}
use Rattle.page_layout.specs.Newest.{newest, latest_below, IsNewest, TellsLatest}
use Rattle.page_layout.specs.Live.{IsKeyOf, keys, live}
use Rattle.page_layout.specs.Array.{marks, sector_of, array_of, ReadsAs, IsArray, HasOneArray}
use Rattle.page_layout.specs.Block.{HasGap, IsTopWear, has_gap, written, top_wear}
use Rattle.page_layout.specs.Word.{IsRow, row_of_word, word_of_row}
use Rattle.page_layout.specs.Raw.{IsRaw, raw_bytes, raw_image}

-- ---- the numbers of a geometry

-- v live pages are at most vmax_at just where v copies, with one translation page for each share + 1 of them, the last for fewer, or all
-- that there are, leave a page of the block over
abbrev pub WorthLaw : Type 0
WorthLaw = (g : Geometry) (share v : ℕ) → (v ≤ vmax_at g share) ↔ (v + min (div_ceil v (share + 1)) (translation_pages g) < g.pages)

-- with share 0 no sector waits, which each die allows, and the numbers are those of a die whose sectors don't wait
pub record HasNoShare (g : Geometry) : Type 0 where
  pub waiting : waiting_at g 0 ≡ 0
  pub allowed : IsShare g 0
  pub vmax : vmax_at g 0 ≡ vmax g
  pub flush_blocks : flush_blocks_at g 0 ≡ 0
  pub need : need_at g 0 ≡ need g

abbrev pub NoShareLaw : Type 0
NoShareLaw = (g : Geometry) → HasNoShare g

-- with a greater share no fewer live pages are worth it, and above 0 no more good blocks are needed
abbrev pub GreaterShareLaw : Type 0
GreaterShareLaw = (g : Geometry) (share greater : ℕ) → share ≤ greater → vmax_at g share ≤ vmax_at g greater

abbrev pub FewerNeededLaw : Type 0
FewerNeededLaw = (g : Geometry) (share greater : ℕ) → 0 < share → share ≤ greater → need_at g greater ≤ need_at g share

-- the entry of a sector is on one of the translation pages, that of a block on one of the table pages
abbrev pub SectorEntryLaw : Type 0
SectorEntryLaw = (g : Geometry) (n : ℕ) → n < g.sectors → n / entries g < translation_pages g

abbrev pub BlockEntryLaw : Type 0
BlockEntryLaw = (g : Geometry) (block : ℕ) → block < g.blocks → block / entries g < table_pages g

-- the table pages fit into one block
abbrev pub TableFitsLaw : Type 0
TableFitsLaw = (g : Geometry) → table_pages g ≤ g.pages

-- ---- one page

-- `record_of` is the one record that the page is sound with
abbrev pub SoundLaw : Type 0
SoundLaw = (p : Page) (r : Record) → (record_of p ≡ Some r) ↔ IsSound p r

-- a page is erased just where all its bytes are FFh
abbrev pub ErasedLaw : Type 0
ErasedLaw = (p : Page) → (is_erased_page p ≡ true) ↔ (AreFill p.body × AreFill p.spare)

-- no erased page is sound
abbrev pub ErasedUnsoundLaw : Type 0
ErasedUnsoundLaw = (p : Page) → is_erased_page p ≡ true → record_of p ≡ None

-- ---- the newest page of a key

-- `newest` is the one row that `IsNewest` speaks of, or none where there is no such row
abbrev pub NewestLaw : Type 0
NewestLaw = (ms : List (Option Record)) (key : Key) (row : ℕ) → (newest ms key ≡ Some row) ↔ IsNewest ms key row

-- what a scan of all pages by rising row knows in the end
abbrev pub ScanLaw : Type 0
ScanLaw = (ms : List (Option Record)) (key : Key) → TellsLatest ms key (latest_below ms key (length ms))

-- in an image with one array each key of a sound page has a newest page
abbrev pub HasNewestLaw : Type 0
HasNewestLaw = (g : Geometry) (image : Image) (row : ℕ) (r : Record) → HasOneArray g image → get_or (marks image) row None ≡ Some r → IsSome (newest (marks image) (key_of r))

-- ---- the array

-- `sector_of` is what the sector reads as, and nothing else is
abbrev pub SectorLaw : Type 0
SectorLaw = (g : Geometry) (image : Image) (n : ℕ) (bytes : List ℕ) → (bytes ≡ sector_of g image n) ↔ ReadsAs g image n bytes

-- every image holds just one array in this sense, `array_of`
abbrev pub ArrayLaw : Type 0
ArrayLaw = (g : Geometry) (image : Image) (sectors : List (List ℕ)) → (sectors ≡ array_of g image) ↔ IsArray g image sectors

-- ---- live counts

-- the keys of a die are listed once each
abbrev pub KeysLaw : Type 0
KeysLaw = (g : Geometry) (key : Key) → IsKeyOf g key → count_by (key_eq key) (keys g) ≡ 1

-- and no others are
abbrev pub NoOtherKeyLaw : Type 0
NoOtherKeyLaw = (g : Geometry) (key : Key) → (¬ IsKeyOf g key) → count_by (key_eq key) (keys g) ≡ 0

-- the live counts of all blocks together are at most the keys
abbrev pub LiveSumLaw : Type 0
LiveSumLaw = (g : Geometry) (ms : List (Option Record)) → sum_by (live g ms) (range_with_len 0 g.blocks) ≤ key_count g

-- ---- raw images

-- the pages of a raw image, one after another, are its bytes
abbrev pub RawBytesLaw : Type 0
RawBytesLaw = (g : Geometry) (bytes : List ℕ) → IsRaw g bytes → raw_bytes (raw_image g bytes) ≡ bytes

-- and they are an image of the die
abbrev pub RawImageLaw : Type 0
RawImageLaw = (g : Geometry) (bytes : List ℕ) → IsRaw g bytes → IsImage g (raw_image g bytes)

-- each image of the die is that of its bytes
abbrev pub RawAgainLaw : Type 0
RawAgainLaw = (g : Geometry) (image : Image) → IsImage g image → raw_image g (raw_bytes image) ≡ image

-- ---- a block by its pages

abbrev pub GapLaw : Type 0
GapLaw = (ps : List Page) → (has_gap ps ≡ true) ↔ HasGap ps

-- of a block without a gap the pages before the pointer are those that aren't erased
abbrev pub PointerLaw : Type 0
PointerLaw = (ps : List Page) (k : ℕ) (p : Page) → has_gap ps ≡ false → slice_get ps k ≡ Some p → (is_erased_page p ≡ true) ↔ (written ps ≤ k)

abbrev pub TopWearLaw : Type 0
TopWearLaw = (ps : List Page) → IsTopWear ps (top_wear ps)

-- ---- rows as words

-- a row is read back from its word, and a word from its row
abbrev pub RowAgainLaw : Type 0
RowAgainLaw = (row : Option ℕ) → IsRow row → row_of_word (word_of_row row) ≡ row

abbrev pub WordAgainLaw : Type 0
WordAgainLaw = (word : ℕ) → word_of_row (row_of_word word) ≡ word
