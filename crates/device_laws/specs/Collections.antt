-- Which block is collected, and what is done before it is erased.
use Rattle.std.specs.Prelude.{◌≡◌, ◌≢◌, ℕ, ◌<◌, ◌≤◌, Bool, true, false, length, Some, None}
use Rattle.page_layout.specs.Geometry.{vmax_at}
use Rattle.page_layout.specs.Page.{Image}
use Rattle.bad_blocks.specs.Table.{is_good_at}
use Rattle.allocation.specs.State.{State, live_at, is_closed, free_count}
use Rattle.collection.specs.declared.engine.Pinned.{Pinned}
use Rattle.collection.specs.declared.engine.collect_in_turns.Step.{Step}
use Rattle.collection.specs.declared.engine.collect_in_turns.Step.TheVariants.{Erased}
use Rattle.collection.specs.State.{Ram}
use Rattle.collection.specs.Collect.{has_moved, is_over, is_due, waiting, HasWritten, HasCollected, HasRoom, IsAiling}
use Rattle.collection.specs.Room.{IsNextFor}
use Rattle.collection.specs.Left.{StepsOn, left_to_program}

-- THE BLOCK THAT IS COLLECTED NEXT, where none is pinned: fewer are free than are wanted, and it is a closed one, with newest pages so few that it
-- pays, and no other closed one has fewer
abbrev pub VictimLaw : Type 0
VictimLaw = (many : ℕ) (r : Ram) (block other : ℕ) → IsNextFor many r block → r.pin.block ≡ None
    → (free_count r.blocks < many) × (is_closed r.blocks block ≡ true) × (live_at r.blocks block ≤ vmax_at r.geometry r.mapping.share)
    × (other < r.blocks.geometry.blocks → is_closed r.blocks other ≡ true → live_at r.blocks block ≤ live_at r.blocks other)

-- THE PINNED BLOCK COMES FIRST
abbrev pub PinnedFirstLaw : Type 0
PinnedFirstLaw = (many : ℕ) (r : Ram) (pinned : Pinned) (block : ℕ) → IsNextFor many r block → r.pin.block ≡ Some pinned → (free_count r.blocks < many) × (pinned.block ≡ block)

-- NO MORE SECTORS ARE MOVED THAN MAY WAIT once the block is erased, and where none may, none is
abbrev pub NoneWaitsLaw : Type 0
NoneWaitsLaw = (flushing : Bool) (block t : ℕ) (old new : Ram) → HasCollected flushing block old new
    → (length new.mapping.moved ≤ waiting new) × (new.mapping.share ≡ 0 → has_moved new.mapping t ≡ false)

-- A TRANSLATION PAGE IS WRITTEN that has to be, and before it all lower ones; unless flushing, more of its sectors than the share were moved
abbrev pub LowestPageLaw : Type 0
LowestPageLaw = (flushing : Bool) (old new : Ram) (w : HasWritten flushing old new) (t : ℕ)
    → (is_due flushing old w.page ≡ true) × (t < w.page → is_due flushing old t ≡ false) × (flushing ≡ false → is_over old.mapping w.page ≡ true)

-- ROOM IS FIVE FREE BLOCKS, and as many as are wanted where a closed block pays
abbrev pub FiveFreeBlocksLaw : Type 0
FiveFreeBlocksLaw = (many : ℕ) (r : Ram) (block : ℕ) → HasRoom many r → (5 ≤ free_count r.blocks)
    × (free_count r.blocks < many → block < r.geometry.blocks → is_closed r.blocks block ≡ true → vmax_at r.geometry r.mapping.share < live_at r.blocks block)

-- A PAGE IS RESCUED from a bad block alone
abbrev pub AilingLaw : Type 0
AilingLaw = (s : State) (block : ℕ) → IsAiling s block → (is_good_at s.table block ≡ false) × (0 < live_at s block)

-- EACH STEP LEAVES LESS TO DO, but the erase that ends the collection
abbrev pub LessLeftLaw : Type 0
LessLeftLaw = (flushing : Bool) (p : Pinned) (old new : Ram) (before after : Image) (step : Step) → StepsOn flushing p old before new after step
    → step ≢ Erased → left_to_program flushing new after p.block < left_to_program flushing old before p.block
