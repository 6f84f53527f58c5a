-- What the lawful operations of a die do to what its image means: the bridge from `Steps` to the laws of change.
use Rattle.std.specs.Prelude.{◌≡◌, ◌≢◌, ℕ, ◌+◌, ◌/◌, ◌<◌, Bool, true, false, List, ◌++◌, length, slice_get, Some}
use Rattle.page_layout.specs.declared.record.Record.{Record}
use Rattle.page_layout.specs.declared.geometry.Geometry.{Geometry}
use Rattle.page_layout.specs.Page.{Page, Image, IsImage}
use Rattle.page_layout.specs.Sound.{record_of, version_of, version_for}
use Rattle.page_layout.specs.Key.{key_of}
use Rattle.page_layout.specs.OneArray.{AreBelow}
use Rattle.page_layout.specs.Live.{IsKeyOf}
use Rattle.page_layout.specs.Array.{marks, HasOneArray}
use Rattle.page_layout.specs.Flash.{Flash, Operation, Program, Erase, next_page_at, may_program, may_erase, Steps, Leads, IsWhole}
use Rattle.page_layout.specs.Counter.{counted}
use Rattle.page_layout.specs.Change.{IsUnsoundAt, IsErasedAt, FailsAt, LosesIn, ErasesIn, HoldsNone, Keeps, Writes, ProgramMeans}

-- ---- programs

-- a program of a page of the die's version, that passed, wrote it
abbrev pub PassedStepLaw : Type 0
PassedStepLaw = (g : Geometry) (old new : Flash) (row : ℕ) (p left : Page) (r : Record) → Steps old (Program row p true left) new
    → HasOneArray g old.image → IsUnsoundAt old.image row → record_of p ≡ Some r → version_of p ≡ Some (version_for g) → AreBelow (marks old.image) r.sequence → IsKeyOf g (key_of r)
    → Writes g r row p.body old.image new.image

-- one that failed kept everything
abbrev pub FailedStepLaw : Type 0
FailedStepLaw = (g : Geometry) (old new : Flash) (row : ℕ) (p left : Page) → Steps old (Program row p false left) new → HasOneArray g old.image
    → IsUnsoundAt old.image row → Keeps g old.image new.image

-- the same by the outcome
abbrev pub OutcomeStepLaw : Type 0
OutcomeStepLaw = (g : Geometry) (old new : Flash) (row : ℕ) (p left : Page) (passed : Bool) (r : Record) → Steps old (Program row p passed left) new
    → HasOneArray g old.image → IsUnsoundAt old.image row → record_of p ≡ Some r → version_of p ≡ Some (version_for g) → AreBelow (marks old.image) r.sequence → IsKeyOf g (key_of r)
    → ProgramMeans g r row p.body passed old.image new.image

-- what one that failed left of its page
abbrev pub FailsStepLaw : Type 0
FailsStepLaw = (old new : Flash) (row : ℕ) (p left : Page) → Steps old (Program row p false left) new → FailsAt row old.image new.image

-- a program, passed or failed, touches no other row
abbrev pub OtherRowsLaw : Type 0
OtherRowsLaw = (old new : Flash) (row other : ℕ) (p left : Page) (passed : Bool) → Steps old (Program row p passed left) new → other ≢ row → slice_get new.image other ≡ slice_get old.image other

-- and the sequence after its own is newer than all
abbrev pub NextSequenceLaw : Type 0
NextSequenceLaw = (old new : Flash) (row : ℕ) (p left : Page) (passed : Bool) (r : Record) → Steps old (Program row p passed left) new
    → IsUnsoundAt old.image row → record_of p ≡ Some r → AreBelow (marks old.image) r.sequence → AreBelow (marks new.image) (r.sequence + 1)

-- ---- erases

-- an erase of a block with no newest page kept everything, whether it passed or not
abbrev pub EraseStepLaw : Type 0
EraseStepLaw = (g : Geometry) (old new : Flash) (block : ℕ) (passed : Bool) (left : List Page) → old.geometry ≡ g
    → Steps old (Erase block passed left) new → HasOneArray g old.image → HoldsNone g.pages block old.image → Keeps g old.image new.image

-- what an erase, passed or not, left of its block
abbrev pub LosesStepLaw : Type 0
LosesStepLaw = (old new : Flash) (block : ℕ) (passed : Bool) (left : List Page) → Steps old (Erase block passed left) new → LosesIn old.geometry.pages block old.image new.image

-- one that passed left erased pages
abbrev pub ClearedStepLaw : Type 0
ClearedStepLaw = (g : Geometry) (old new : Flash) (block : ℕ) (left : List Page) → old.geometry ≡ g → Steps old (Erase block true left) new → ErasesIn g block old.image new.image

-- what was newer than all is so after an erase
abbrev pub EraseBelowLaw : Type 0
EraseBelowLaw = (old new : Flash) (block next : ℕ) (passed : Bool) (left : List Page) → Steps old (Erase block passed left) new → AreBelow (marks old.image) next → AreBelow (marks new.image) next

-- ---- next pages

-- The next pages after an operation that named this block, where `next` is the page to come if it passes. One that was due and passed leaves
-- that page next and the block as good as it was; one that was due and failed bars the block. One that was not due moves nothing, and
-- no operation moves the next page of another block.
pub record MovesTurn (old new : Flash) (block next : ℕ) (due passed : Bool) : Type 0 where
  pub passes_next : due ≡ true → passed ≡ true → (next_page_at new block).next ≡ next
  pub passes_good : due ≡ true → passed ≡ true → (next_page_at new block).barred ≡ false
  pub fails_next : due ≡ true → passed ≡ false → (next_page_at new block).next ≡ (next_page_at old block).next
  pub fails_barred : due ≡ true → passed ≡ false → (next_page_at new block).barred ≡ true
  pub refused_next : due ≡ false → (next_page_at new block).next ≡ (next_page_at old block).next
  pub refused_barred : due ≡ false → (next_page_at new block).barred ≡ (next_page_at old block).barred
  pub others : (other : ℕ) → other ≢ block → next_page_at new other ≡ next_page_at old other

-- the counts of a block after a program, or an erase, that was asked of it, due or not
pub record CountsProgram (old new : Flash) (block : ℕ) : Type 0 where
  pub programs : (next_page_at new block).programs ≡ counted (next_page_at old block).programs
  pub erases : (next_page_at new block).erases ≡ (next_page_at old block).erases

pub record CountsErase (old new : Flash) (block : ℕ) : Type 0 where
  pub programs : (next_page_at new block).programs ≡ (next_page_at old block).programs
  pub erases : (next_page_at new block).erases ≡ counted (next_page_at old block).erases

-- after a program that passed the next page of the block comes next
abbrev pub ProgramNextLaw : Type 0
ProgramNextLaw = (old new : Flash) (row : ℕ) (p : Page) (passed : Bool) (left : Page) → Steps old (Program row p passed left) new
    → MovesTurn old new (row / old.geometry.pages) ((next_page_at old (row / old.geometry.pages)).next + 1) (may_program old row) passed

abbrev pub ProgramCountLaw : Type 0
ProgramCountLaw = (old new : Flash) (row : ℕ) (p : Page) (passed : Bool) (left : Page) → row / old.geometry.pages < length old.next_pages
    → Steps old (Program row p passed left) new → CountsProgram old new (row / old.geometry.pages)

-- one that was due is no abuse
abbrev pub FairProgramLaw : Type 0
FairProgramLaw = (old new : Flash) (row : ℕ) (p : Page) (passed : Bool) (left : Page) → Steps old (Program row p passed left) new → may_program old row ≡ true → new.abuse ≡ old.abuse

-- after an erase that passed page 0 of the block comes next
abbrev pub EraseNextLaw : Type 0
EraseNextLaw = (old new : Flash) (block : ℕ) (passed : Bool) (left : List Page) → Steps old (Erase block passed left) new → MovesTurn old new block 0 (may_erase old block) passed

abbrev pub EraseCountLaw : Type 0
EraseCountLaw = (old new : Flash) (block : ℕ) (passed : Bool) (left : List Page) → Steps old (Erase block passed left) new → CountsErase old new block

-- one that was due is no abuse
abbrev pub FairEraseLaw : Type 0
FairEraseLaw = (old new : Flash) (block : ℕ) (passed : Bool) (left : List Page) → Steps old (Erase block passed left) new → may_erase old block ≡ true → new.abuse ≡ old.abuse

-- the operation failed, changed no page, and was counted as abuse
pub record IsRefused (old new : Flash) (passed : Bool) : Type 0 where
  pub has_failed : passed ≡ false
  pub image_same : new.image ≡ old.image
  pub counted_once : new.abuse ≡ counted old.abuse

-- one that was not due is refused
abbrev pub RefusedProgramLaw : Type 0
RefusedProgramLaw = (old new : Flash) (row : ℕ) (p : Page) (passed : Bool) (left : Page) → Steps old (Program row p passed left) new → may_program old row ≡ false → IsRefused old new passed

abbrev pub RefusedEraseLaw : Type 0
RefusedEraseLaw = (old new : Flash) (block : ℕ) (passed : Bool) (left : List Page) → Steps old (Erase block passed left) new → may_erase old block ≡ false → IsRefused old new passed

-- ---- rows that may be programmed

-- an erased page of the die has no sound record
abbrev pub ErasedRowLaw : Type 0
ErasedRowLaw = (g : Geometry) (image : Image) (row : ℕ) → IsImage g image → IsErasedAt image row → IsUnsoundAt image row

-- each row of a block is erased after an erase that passed
abbrev pub ErasedBlockLaw : Type 0
ErasedBlockLaw = (g : Geometry) (block row : ℕ) (old new : Image) → ErasesIn g block old new → row / g.pages ≡ block → row < length old → IsErasedAt new row

-- ---- logs

-- one log after another
abbrev pub LogsLaw : Type 0
LogsLaw = (a b c : Flash) (xs ys : List Operation) → Leads a xs b → Leads b ys c → Leads a (xs ++ ys) c

-- no log changes the geometry
abbrev pub GeometryStaysLaw : Type 0
GeometryStaysLaw = (a b : Flash) (xs : List Operation) → Leads a xs b → b.geometry ≡ a.geometry

-- a log leads from a die as a whole to one: so each image between is one of the die
abbrev pub WholeStaysLaw : Type 0
WholeStaysLaw = (a b : Flash) (xs : List Operation) → Leads a xs b → IsWhole a → IsWhole b
