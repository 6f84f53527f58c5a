-- WHAT THE TAKING OF PAGES COMES TO, as far as it came: so also where it was stopped at any write.
use Rattle.std.specs.Prelude.{◌≡◌, ◌≢◌, ◌<◌, ◌≤◌, ℕ, true, false, Some}
use Rattle.std.specs.List.{list_any}
use Rattle.page_layout.specs.declared.geometry.Geometry.{Geometry}
use Rattle.page_layout.specs.declared.record.Key.{Key}
use Rattle.page_layout.specs.Page.{Image, IsImage}
use Rattle.page_layout.specs.Block.{block_pages, has_gap, is_broken}
use Rattle.page_layout.specs.Live.{live}
use Rattle.page_layout.specs.Newest.{newest}
use Rattle.page_layout.specs.Array.{marks, HasOneArray}
use Rattle.page_layout.specs.Change.{IsUnsoundAt}
use Rattle.file_die.specs.Store.{Held, AreImages}
use Rattle.image_check.specs.Blocks.{class}
use Rattle.image_check.specs.Torn.{StandsFor}
use Rattle.image_laws.specs.Power.{LosesPower, LosesSince}
use Rattle.crash_recovery.specs.Torn.{IsCut, IsCutFrom, IsDeadRow, IsFirstUnsound, IsTorn, NoneIsMarked, NothingTorn, SomeCut, row_in}
use Rattle.crash_recovery.specs.Taken.{HasTaken, Recovers, Takes, lasting}

-- no key has its newest page in a row that is taken
abbrev pub TakesNoNewest : (taken : ℕ → Type 0) → Image → Type 0
TakesNoNewest taken image = (row : ℕ) → taken row → (key : Key) → newest (marks image) key ≢ Some row

-- no row that is taken had a record when the image was stored
abbrev pub TakesNoneStored : (taken : ℕ → Type 0) → Image → Type 0
TakesNoneStored taken stored = (row : ℕ) → taken row → IsUnsoundAt stored row

-- WHERE NO NEWEST PAGE IS CUT NOTHING IS LOST: the pages hold the same array, and mount as they did
abbrev pub SpareLaw : Type 0
SpareLaw = (mark : ℕ) (s t : Held) → AreImages s → HasOneArray s.geometry s.pages → TakesNoNewest (IsCut s.geometry s.pages mark) s.pages → Takes (IsCut s.geometry s.pages mark) s t → StandsFor s.geometry s.pages t.pages

-- where a block is erased again nothing is lost, nor by a loss of power meanwhile: what is found then holds the same array, and mounts as the pages did
abbrev pub DeadSpareLaw : Type 0
DeadSpareLaw = (s t : Held) → AreImages s → HasOneArray s.geometry s.pages → Takes (IsDeadRow s.geometry s.pages) (lasting s) t → StandsFor s.geometry s.pages t.pages × StandsFor s.geometry s.pages t.durable

-- no sound page of the block stood behind one that is not
pub record HasSoundPagesFirst (g : Geometry) (image : Image) (block : ℕ) : Type 0 where
  pub behind : (a b : ℕ) → a < b → b < g.pages → IsUnsoundAt image (row_in g block a) → IsUnsoundAt image (row_in g block b)

-- the blocks that are cut were in order when the image was stored
abbrev pub CutsInOrder : Geometry → (stored found : Image) → (mark : ℕ) → Type 0
CutsInOrder g stored found mark = (block page : ℕ) → IsCutFrom g found mark block page → HasSoundPagesFirst g stored block

-- AFTER A LOSS OF POWER: what is left by a cut is what a loss of power leaves of the same image. So all that is said of one
-- is so of it: nothing that was stored is lost, and each sector is as it was then or as a page of it since
abbrev pub LossLaw : Type 0
LossLaw = (mark : ℕ) (stored left : Image) (s t : Held) → AreImages s → LosesPower s.geometry stored left s.pages → CutsInOrder s.geometry stored s.pages mark → Takes (IsCut s.geometry s.pages mark) s t
    → LosesPower s.geometry stored left t.pages

-- and so is what is found if the power goes once more, where it was before
abbrev pub LossLastsLaw : Type 0
LossLastsLaw = (mark : ℕ) (stored left : Image) (s t : Held) → AreImages s → LosesPower s.geometry stored left s.pages → CutsInOrder s.geometry stored s.pages mark → Takes (IsCut s.geometry s.pages mark) s t
    → LosesSince stored left s.durable → LosesPower s.geometry stored left t.durable

-- ---- that this is so of what is cut

-- so it is of a block that is not bad
abbrev pub GoodInOrderLaw : Type 0
GoodInOrderLaw = (g : Geometry) (image : Image) (block : ℕ) → IsImage g image → block < g.blocks → class g image block < 4 → HasSoundPagesFirst g image block

-- THE PAGES OF A BLOCK ARE PROGRAMMED IN ORDER, and a sync makes all before it last: so where the block's first page is found that is not sound none from there
-- on was stored
abbrev pub OrderLaw : Type 0
OrderLaw = (g : Geometry) (stored left found : Image) (block page k : ℕ) → LosesPower g stored left found → HasSoundPagesFirst g stored block → IsFirstUnsound g found block page
    → page ≤ k → k < g.pages → IsUnsoundAt stored (row_in g block k)

-- so no row that is cut had a record when the image was stored
abbrev pub CutLaw : Type 0
CutLaw = (g : Geometry) (stored left found : Image) (mark : ℕ) → LosesPower g stored left found → CutsInOrder g stored found mark
    → TakesNoneStored (IsCut g found mark) stored

-- a torn page alone, with no sound one behind it, as a killed program leaves it: its cut takes no newest page
abbrev pub TailLaw : Type 0
TailLaw = (g : Geometry) (image : Image) (mark : ℕ) → ((row : ℕ) → IsCut g image mark row → IsUnsoundAt image row) → TakesNoNewest (IsCut g image mark) image

-- and no row of a block that is erased again is a newest page
abbrev pub DeadLaw : Type 0
DeadLaw = (g : Geometry) (image : Image) → HasOneArray g image → TakesNoNewest (IsDeadRow g image) image

-- A BLOCK THAT WAS CUT SHOWS NO DAMAGE: no page of it is torn, and none is missing
abbrev pub CutShowsNoDamageLaw : Type 0
CutShowsNoDamageLaw = (mark : ℕ) (s t : Held) (block page : ℕ) → AreImages s → block < s.geometry.blocks → HasTaken (IsCut s.geometry s.pages mark) s t → IsCutFrom s.geometry s.pages mark block page
    → (list_any is_broken (block_pages s.geometry t.pages block) ≡ false) × (has_gap (block_pages s.geometry t.pages block) ≡ false)

-- WHERE A CUT WAS STOPPED, at whatever write, the block is cut from the same page once more, or shows no damage: that page is its first that is not sound
-- still, and none behind it is marked
abbrev pub CutAgainLaw : Type 0
CutAgainLaw = (mark : ℕ) (s t : Held) (block page : ℕ) → AreImages s → block < s.geometry.blocks → Takes (IsCut s.geometry s.pages mark) s t → IsCutFrom s.geometry s.pages mark block page
    → IsFirstUnsound s.geometry t.pages block page × NoneIsMarked s.geometry t.pages mark block page

-- ---- a store that was recovered

-- WHAT WAS RECOVERED LASTS: a loss of power right after it leaves these very pages
abbrev pub RecoveredLastsLaw : Type 0
RecoveredLastsLaw = (mark : ℕ) (s t : Held) → Recovers mark s t true → t.durable ≡ t.pages

-- where anything was changed something was torn
abbrev pub RecoveredTornLaw : Type 0
RecoveredTornLaw = (mark : ℕ) (s t : Held) → Recovers mark s t true → ¬ NothingTorn s.geometry s.pages mark

-- and where a row was to be cut no block was erased again
abbrev pub CutFirstLaw : Type 0
CutFirstLaw = (mark : ℕ) (s t : Held) → Recovers mark s t true → SomeCut s.geometry s.pages mark → HasTaken (IsCut s.geometry s.pages mark) s t

-- the block holds a key's newest page, and behind its first page that is not sound one was synced
pub record IsLeftTorn (g : Geometry) (image : Image) (mark block : ℕ) : Type 0 where
  pub holds : live g (marks image) block ≢ 0
  pub marked : (page : ℕ) → IsFirstUnsound g image block page → ¬ NoneIsMarked g image mark block page

-- WHERE NOTHING IS TORN THAT COULD BE TAKEN AWAY, each block that is torn still is so
abbrev pub LeftTornLaw : Type 0
LeftTornLaw = (g : Geometry) (image : Image) (mark block : ℕ) → NothingTorn g image mark → block < g.blocks → IsTorn g image block → IsLeftTorn g image mark block
