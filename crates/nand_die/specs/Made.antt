-- Dies as they are made: with factory marks, or of an image and a list of bad blocks.
use Rattle.std.specs.Prelude.{◌≡◌, ◌≢◌, ◌⊎◌, ℕ, ◌+◌, ◌-◌, ◌*◌, ◌<◌, ◌≤◌, ◌==◌, Bool, true, false, List, [], ◌∷◌, length, map, slice_get, slice_set, get_or}
use Rattle.std.specs.Prelude.{take, Contains, Some, if◌then◌else◌}
use Rattle.std.specs.List.{range_with_len, list_any}
use Rattle.page_layout.specs.declared.geometry.Geometry.{Geometry}
use Rattle.page_layout.specs.Geometry.{row_count, page_bytes}
use Rattle.page_layout.specs.Page.{Page, Image, page}
use Rattle.page_layout.specs.Raw.{raw_image}
use Rattle.page_layout.specs.Sound.{is_erased_page}
use Rattle.page_layout.specs.Block.{block_pages, past_last}
use Rattle.page_layout.specs.Change.{erased_page}
use Rattle.page_layout.specs.Flash.{Flash, NextState, no_page, no_next_page}
use Rattle.nand_die.specs.declared.fault.Mark.{Mark}
use Rattle.nand_die.specs.declared.fault.DieFault.{DieFault}
use Rattle.nand_die.specs.declared.fault.DieFault.TheVariants.{WrongLength, BadMark, OutOfMemory, SoundFaultPage}

-- ---- blocks that are named bad

-- the block of this place in the list lies past the die, or was named earlier in the list
pub record IsMisnamed (g : Geometry) (names : List ℕ) (at block : ℕ) : Type 0 where
  pub here : slice_get names at ≡ Some block
  pub wrong : (g.blocks ≤ block) ⊎ Contains (take at names) block

-- each lies in the die, and none is named twice
abbrev pub AreNames : Geometry → List ℕ → Type 0
AreNames g names = (at block : ℕ) → ¬ IsMisnamed g names at block

-- the first that does not, or is
pub record IsFirstMisnamed (g : Geometry) (names : List ℕ) (block : ℕ) : Type 0 where
  pub at : ℕ
  pub misnamed : IsMisnamed g names at block
  pub first : (before other : ℕ) → before < at → ¬ IsMisnamed g names before other

-- the fault says which
abbrev pub NamesFirst : Geometry → List ℕ → DieFault → Type 0
NamesFirst g names WrongLength = ⊥
NamesFirst g names (BadMark block) = IsFirstMisnamed g names block
NamesFirst g names OutOfMemory = ⊥
NamesFirst g names SoundFaultPage = ⊥

-- whether a block stands in the list
abbrev pub is_named : List ℕ → ℕ → Bool
is_named names block = list_any (λ n. n == block) names

-- ---- the next pages of blocks of which nothing was asked

-- of a block of which nothing was asked: its next page, and whether it is bad
abbrev pub first_next_page : ℕ → Bool → NextState
first_next_page next bad = record { next = next; barred = bad; programs = 0; erases = 0 }

-- the same block, in which nothing more may be done
abbrev pub barred_next_page : NextState → NextState
barred_next_page t = record { next = t.next; barred = true; programs = t.programs; erases = t.erases }

-- these are the next pages, and the blocks of the list are bad
abbrev pub first_next_pages : Geometry → (ℕ → ℕ) → List ℕ → List NextState
first_next_pages g next names = map (λ block. first_next_page (next block) (is_named names block)) (range_with_len 0 g.blocks)

-- ---- blocks named bad, of any next pages

-- the next pages once one more block is bad
abbrev pub with_barred : List NextState → ℕ → List NextState
with_barred next_pages block = slice_set next_pages block (barred_next_page (get_or next_pages block no_next_page))

-- the next pages once the blocks of the list were named, one after another
abbrev pub all_barred : List NextState → List ℕ → List NextState
all_barred next_pages [] = next_pages
all_barred next_pages (block ∷ names) = all_barred (with_barred next_pages block) names

-- the block of this place in the list lies past the last, or is bad once those before it were named
pub record IsRefusedName (next_pages : List NextState) (names : List ℕ) (at block : ℕ) : Type 0 where
  pub here : slice_get names at ≡ Some block
  pub wrong : (length next_pages ≤ block) ⊎ ((get_or (all_barred next_pages (take at names)) block no_next_page).barred ≡ true)

-- each block of the list was named bad, and nothing else changed
pub record NamedAll (old new : List NextState) (names : List ℕ) : Type 0 where
  pub none : (at block : ℕ) → ¬ IsRefusedName old names at block
  pub left : new ≡ all_barred old names

-- the block of one place was refused, the first that is: those before it were named bad, and nothing else changed
pub record NamedUpTo (old new : List NextState) (names : List ℕ) (block : ℕ) : Type 0 where
  pub at : ℕ
  pub refused : IsRefusedName old names at block
  pub first : (before other : ℕ) → before < at → ¬ IsRefusedName old names before other
  pub left : new ≡ all_barred old (take at names)

-- ---- a new die

-- the blocks that the marks are of
abbrev pub marked_blocks : List Mark → List ℕ
marked_blocks marks = map (λ m. m.block) marks

-- the row of the page that is marked: the first or the last of the block
abbrev pub marked_row : Geometry → Mark → ℕ
marked_row g m = m.block * g.pages + (if m.last then g.pages - 1 else 0)

-- spare byte 0 is 00h
abbrev pub with_mark : Page → Page
with_mark p = page p.body (slice_set p.spare 0 0)

-- a page is erased, but for its mark where it has one
abbrev pub new_page : Geometry → List Mark → ℕ → Page
new_page g marks row = if list_any (λ m. marked_row g m == row) marks then with_mark (erased_page g) else erased_page g

-- every page of a die that was never programmed
abbrev pub new_image : Geometry → List Mark → Image
new_image g marks = map (new_page g marks) (range_with_len 0 (row_count g))

-- nothing was programmed, and the marked blocks are bad
abbrev pub new_flash : Geometry → List Mark → Flash
new_flash g marks = record { geometry = g; image = new_image g marks; next_pages = first_next_pages g (λ block. 0) (marked_blocks marks); abuse = 0 }

-- ---- a die that holds an image

-- one past the last page that isn't erased, said of the pages: those from there on are erased, and the one before is not
pub record IsNextPage (ps : List Page) (next : ℕ) : Type 0 where
  pub most : next ≤ length ps
  pub erased : (k : ℕ) → next ≤ k → k < length ps → is_erased_page (get_or ps k no_page) ≡ true
  pub last : 0 < next → is_erased_page (get_or ps (next - 1) no_page) ≡ false

-- the next page of a block of the image
abbrev pub next_in : Geometry → Image → ℕ → ℕ
next_in g image block = past_last (block_pages g image block)

-- the pages are the image's, the next page of each block is one past its last page that is not erased, and the blocks named are bad
abbrev pub loaded_flash : Geometry → List ℕ → List ℕ → Flash
loaded_flash g bytes bad = record { geometry = g; image = raw_image g bytes; next_pages = first_next_pages g (next_in g (raw_image g bytes)) bad; abuse = 0 }

-- ---- what is refused

-- why no die is made of these marks
abbrev pub RefusesMarks : Geometry → List Mark → DieFault → Type 0
RefusesMarks g marks WrongLength = ⊥
RefusesMarks g marks (BadMark block) = IsFirstMisnamed g (marked_blocks marks) block
RefusesMarks g marks OutOfMemory = Unit {0}
RefusesMarks g marks SoundFaultPage = ⊥

-- why none is made of an image: its length is looked at first
abbrev pub RefusesImage : Geometry → List ℕ → List ℕ → DieFault → Type 0
RefusesImage g bytes bad WrongLength = length bytes ≢ row_count g * page_bytes g
RefusesImage g bytes bad (BadMark block) = (length bytes ≡ row_count g * page_bytes g) × IsFirstMisnamed g bad block
RefusesImage g bytes bad OutOfMemory = length bytes ≡ row_count g * page_bytes g
RefusesImage g bytes bad SoundFaultPage = ⊥
