-- What stands in a flash: its pages, and the next page of each block. Programs and erases, and the law of each: ONFI's, that a page is programmed
-- and a block erased as a whole, with this project's rules of turns: the pages of a block are programmed by rising number, each once between
-- two erases, and a bad or failed block is left alone.
use Rattle.std.specs.Prelude.{◌≡◌, ◌⊎◌, ℕ, Bool, true, false, not, ◌&&◌, ◌||◌, ◌==◌, ◌+◌, ◌*◌, ◌/◌, ◌%◌, ◌<◌, ◌≤◌, List, [], ◌∷◌, ◌++◌, length, take}
use Rattle.std.specs.Prelude.{drop, replicate, slice_set, get_or, None, if◌then◌else◌}
use Rattle.page_layout.specs.declared.geometry.Geometry.{Geometry}
use Rattle.page_layout.specs.Page.{Page, Image, IsImage, IsPage, page}
use Rattle.page_layout.specs.Sound.{record_of}
use Rattle.page_layout.specs.Change.{erased_page}
use Rattle.page_layout.specs.Counter.{counted}

-- what stands next in a block: its next page, whether it is bad or has failed, and what was asked of it
pub record NextState : Type 0 where
  pub next : ℕ
  pub barred : Bool
  pub programs : ℕ
  pub erases : ℕ

-- A die: its geometry, its pages in row order, the next page of each block, and how many operations were not due. A source of pages that is no
-- die has no next pages, and 0 of those.
pub record Flash : Type 0 where
  pub geometry : Geometry
  pub image : Image
  pub next_pages : List NextState
  pub abuse : ℕ

-- a program of a page or an erase of a block, as it was asked for, with what it left
pub data Operation : Type 0 where
  Program : (row : ℕ) (page : Page) (passed : Bool) (left : Page) → Operation
  Erase : (block : ℕ) (passed : Bool) (left : List Page) → Operation

-- the next page of a block that there is not
abbrev pub no_next_page : NextState
no_next_page = record { next = 0; barred = true; programs = 0; erases = 0 }

-- the page of a row that there is not
abbrev pub no_page : Page
no_page = page [] []

-- the next page of a block
abbrev pub next_page_at : Flash → ℕ → NextState
next_page_at s block = get_or s.next_pages block no_next_page

-- the page of a row
abbrev pub page_at : Flash → ℕ → Page
page_at s row = get_or s.image row no_page

-- the pages of a block
abbrev pub block_at : Flash → ℕ → List Page
block_at s block = take s.geometry.pages (drop (block * s.geometry.pages) s.image)

-- whether a program of the row is due: its page is the next one of its block, which is neither bad nor failed
abbrev pub may_program : Flash → ℕ → Bool
may_program s row = not (next_page_at s (row / s.geometry.pages)).barred && ((next_page_at s (row / s.geometry.pages)).next == row % s.geometry.pages)

-- whether an erase of the block is due: it is neither bad nor failed
abbrev pub may_erase : Flash → ℕ → Bool
may_erase s block = not (next_page_at s block).barred

-- The next page of a block after a program in it. One that was due moves the next page on where it passed, and leaves the block failed where
-- it failed. Each is counted.
abbrev pub after_program : NextState → Bool → Bool → NextState
after_program t legal passed = record {
  next = if legal && passed then t.next + 1 else t.next;
  barred = t.barred || (legal && not passed);
  programs = counted t.programs;
  erases = t.erases;
}

-- The same of an erase, after which page 0 is the next one.
abbrev pub after_erase : NextState → Bool → Bool → NextState
after_erase t legal passed = record {
  next = if legal && passed then 0 else t.next;
  barred = t.barred || (legal && not passed);
  programs = t.programs;
  erases = counted t.erases;
}

-- an image in which the pages of a block are these
abbrev pub with_block : ℕ → ℕ → List Page → Image → Image
with_block pages block left image = take (block * pages) image ++ (left ++ drop (block * pages + pages) image)

-- what an operation leaves of the die, which counts it as abuse where it was not due
unfoldable pub after : Flash → Operation → Flash
after s (Program row page passed left) = record {
  geometry = s.geometry;
  image = slice_set s.image row left;
  next_pages = slice_set s.next_pages (row / s.geometry.pages) (after_program (next_page_at s (row / s.geometry.pages)) (may_program s row) passed);
  abuse = if may_program s row then s.abuse else counted s.abuse;
}
after s (Erase block passed left) = record {
  geometry = s.geometry;
  image = with_block s.geometry.pages block left s.image;
  next_pages = slice_set s.next_pages block (after_erase (next_page_at s block) (may_erase s block) passed);
  abuse = if may_erase s block then s.abuse else counted s.abuse;
}

-- A program left a page of the die. One that passed left what was handed in; one that failed left the page as it was, or no sound record.
-- One that was not due has failed and left the page as it was.
pub record IsLawfulProgram (s : Flash) (row : ℕ) (page : Page) (passed : Bool) (left : Page) : Type 0 where
  pub in_range : row < length s.image
  pub sized : IsPage s.geometry left
  pub due : passed ≡ true → may_program s row ≡ true
  pub kept : passed ≡ true → left ≡ page
  pub failed : passed ≡ false → (left ≡ page_at s row) ⊎ (record_of left ≡ None)
  pub refused : may_program s row ≡ false → left ≡ page_at s row

-- An erase left pages of the die, and erased ones where it passed. After one that failed each page is as it was or has no sound record.
-- One that was not due has failed and left the pages as they were.
pub record IsLawfulErase (s : Flash) (block : ℕ) (passed : Bool) (left : List Page) : Type 0 where
  pub in_range : block < length s.next_pages
  pub in_image : block * s.geometry.pages + s.geometry.pages ≤ length s.image
  pub due : passed ≡ true → may_erase s block ≡ true
  pub size : length left ≡ s.geometry.pages
  pub sized : (k : ℕ) → k < s.geometry.pages → IsPage s.geometry (get_or left k no_page)
  pub erased : passed ≡ true → left ≡ replicate s.geometry.pages (erased_page s.geometry)
  pub failed : passed ≡ false → (k : ℕ) → k < s.geometry.pages → (get_or left k no_page ≡ page_at s (block * s.geometry.pages + k)) ⊎ (record_of (get_or left k no_page) ≡ None)
  pub refused : may_erase s block ≡ false → left ≡ block_at s block

-- the law of each operation
abbrev pub IsLawful : Flash → Operation → Type 0
IsLawful s (Program row page passed left) = IsLawfulProgram s row page passed left
IsLawful s (Erase block passed left) = IsLawfulErase s block passed left

-- one operation, by the law
pub record Steps (old : Flash) (op : Operation) (new : Flash) : Type 0 where
  pub lawful : IsLawful old op
  pub left : new ≡ after old op

-- a log leads from one state to another, step by step
abbrev pub Leads : Flash → List Operation → Flash → Type 0
Leads old [] new = new ≡ old
Leads old (op ∷ ops) new = (mid : Flash) × Steps old op mid × Leads mid ops new

-- a die as a whole: an image of its geometry, and a next page for each block
pub record IsWhole (s : Flash) : Type 0 where
  pub image_whole : IsImage s.geometry s.image
  pub next_pages_whole : length s.next_pages ≡ s.geometry.blocks
