-- WHAT A CRASH LEAVES OF A BLOCK, and from which page on the block is cut back.
use Rattle.std.specs.Prelude.{◌≡◌, ◌≢◌, ◌<◌, ◌≤◌, ◌+◌, ◌*◌, ◌/◌, ◌%◌, ℕ, Bool, true, false, List, length, get_or, IsSome, Option, Some, None}
use Rattle.page_layout.specs.declared.geometry.Geometry.{Geometry}
use Rattle.page_layout.specs.declared.record.Key.TheVariants.{Table}
use Rattle.page_layout.specs.declared.record.Record.{Record}
use Rattle.page_layout.specs.Geometry.{entries, row_count}
use Rattle.page_layout.specs.Page.{Image}
use Rattle.page_layout.specs.Array.{marks}
use Rattle.page_layout.specs.Live.{live}
use Rattle.page_layout.specs.Newest.{newest}
use Rattle.page_layout.specs.Change.{IsUnsoundAt}
use Rattle.certificate.specs.Claim.{Claim}
use Rattle.image_check.specs.Agrees.{Agrees}
use Rattle.image_check.specs.Blocks.{class, table_class}

-- the row of a page of a block
abbrev pub row_in : Geometry → (block page : ℕ) → ℕ
row_in g block page = block * g.pages + page

-- ITS PAGES ALONE SHOW THE BLOCK BAD: one of them is torn or missing, and the newest table of blocks does not name the block
pub record IsTorn (g : Geometry) (image : Image) (block : ℕ) : Type 0 where
  pub shows : class g image block ≡ 5
  pub unnamed : table_class g image block ≢ 2

-- its first page that is not sound, which in a block that shows bad is torn or missing
pub record IsFirstUnsound (g : Geometry) (image : Image) (block page : ℕ) : Type 0 where
  pub within : page < g.pages
  pub unsound : IsUnsoundAt image (row_in g block page)
  pub before : (k : ℕ) → k < page → IsSome (get_or (marks image) (row_in g block k) None)

-- none of its sound pages from this one on is marked as synced: each has the sequence of the mark, or a later one
pub record NoneIsMarked (g : Geometry) (image : Image) (mark block page : ℕ) : Type 0 where
  pub unmarked : (k : ℕ) (r : Record) → page ≤ k → k < g.pages → get_or (marks image) (row_in g block k) None ≡ Some r → mark ≤ r.sequence

-- THE BLOCK IS CUT FROM THIS PAGE ON: it is torn, this is its first page that is not sound, and none behind it is marked
pub record IsCutFrom (g : Geometry) (image : Image) (mark block page : ℕ) : Type 0 where
  pub torn : IsTorn g image block
  pub first : IsFirstUnsound g image block page
  pub unmarked : NoneIsMarked g image mark block page

-- the row is cut: it is that page of its block, or one behind it
pub record IsCut (g : Geometry) (image : Image) (mark row : ℕ) : Type 0 where
  pub page : ℕ
  pub from : IsCutFrom g image mark (row / g.pages) page
  pub behind : page ≤ row % g.pages

-- some row is cut, or none
abbrev pub SomeCut : Geometry → Image → (mark : ℕ) → Type 0
SomeCut g image mark = (row : ℕ) × (row < row_count g) × IsCut g image mark row

abbrev pub NoneCut : Geometry → Image → (mark : ℕ) → Type 0
NoneCut g image mark = (row : ℕ) → row < row_count g → ¬ IsCut g image mark row

-- A BLOCK IS ERASED AGAIN: it is torn, and holds the newest page of no key, as one whose erase was cut short
pub record IsDead (g : Geometry) (image : Image) (block : ℕ) : Type 0 where
  pub torn : IsTorn g image block
  pub none : live g (marks image) block ≡ 0

-- some block is erased again, or none
abbrev pub SomeDead : Geometry → Image → Type 0
SomeDead g image = (block : ℕ) × (block < g.blocks) × IsDead g image block

abbrev pub NoneDead : Geometry → Image → Type 0
NoneDead g image = (block : ℕ) → block < g.blocks → ¬ IsDead g image block

-- ---- what is found by a look

-- the row of the newest table page that tells the class of a block: there is one wherever a certificate agrees with the pages
pub record IsTableRow (g : Geometry) (c : Claim) (block : ℕ) (row : Option ℕ) : Type 0 where
  pub newest_is : (capacity : ℕ) (image : Image) → Agrees g capacity image c → newest (marks image) (Table (block / entries g)) ≡ row
  pub there : (capacity : ℕ) (image : Image) → Agrees g capacity image c → row ≢ None

-- how many of a block's pages are sound at its start
pub record HasSoundRun (g : Geometry) (image : Image) (block count : ℕ) : Type 0 where
  pub most : count ≤ g.pages
  pub sound : (k : ℕ) → k < count → IsSome (get_or (marks image) (row_in g block k) None)
  pub past : count < g.pages → IsUnsoundAt image (row_in g block count)

-- a page from which the block is cut; as many pages as it has where it is not
pub record FindsCut (g : Geometry) (image : Image) (mark block from : ℕ) : Type 0 where
  pub most : from ≤ g.pages
  pub cut : from < g.pages → IsCutFrom g image mark block from
  pub none : g.pages ≤ from → (page : ℕ) → ¬ IsCutFrom g image mark block page

-- so of each block below one
pub record FindsCuts (g : Geometry) (image : Image) (mark below : ℕ) (cuts : List ℕ) : Type 0 where
  pub each : (block : ℕ) → block < below → FindsCut g image mark block (get_or cuts block 0)

-- the rows from these pages on
abbrev pub IsBehind : Geometry → (cuts : List ℕ) → (row : ℕ) → Type 0
IsBehind g cuts row = (row / g.pages < length cuts) × (get_or cuts (row / g.pages) 0 ≤ row % g.pages)

-- of each block below one, whether it is erased again
pub record FindsDead (g : Geometry) (image : Image) (below : ℕ) (dead : List Bool) : Type 0 where
  pub is : (block : ℕ) → block < below → get_or dead block false ≡ true → IsDead g image block
  pub not : (block : ℕ) → block < below → get_or dead block false ≡ false → ¬ IsDead g image block

-- the rows of blocks that are to be erased again
abbrev pub IsDeadRow : Geometry → Image → (row : ℕ) → Type 0
IsDeadRow g image row = IsDead g image (row / g.pages)

-- NOTHING IS TORN that could be taken away: no row is cut, and no block is erased again
pub record NothingTorn (g : Geometry) (image : Image) (mark : ℕ) : Type 0 where
  pub uncut : NoneCut g image mark
  pub undead : NoneDead g image
