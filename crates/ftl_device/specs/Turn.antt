-- What a turn does once it has begun.
use Rattle.std.specs.Prelude.{◌≡◌, ◌⊎◌, false, Some, None, MatchOption}
use Rattle.collection.specs.declared.engine.Pinned.{Pinned}
use Rattle.collection.specs.declared.engine.room.Reserve.TheVariants as reserve
use Rattle.collection.specs.declared.engine.collect_in_turns.Step.{Step}
use Rattle.collection.specs.State.{Ram}
use Rattle.collection.specs.Collect.{HasAiling, HasNoneAiling, HasRescuedPage}
use Rattle.collection.specs.Left.{HasStepped, pinned_to}
use Rattle.collection.specs.Room.{IsMade, IsWorth, wanted}
use Rattle.ftl_device.specs.Calls.{HasMadeRoom}

-- the block that a turn goes on with: the pinned one, from its page on; with none pinned the next victim, where fewer blocks are free than a turn wants
-- and it has few live pages
abbrev pub IsBlockOf : Ram → Pinned → Type 0
IsBlockOf r p = MatchOption r.pin.block (IsWorth (wanted reserve.Turn r) r p.block × (p.first ≡ 0)) (λ pinned. pinned ≡ p)

-- its collection went one step further
pub record HasGoneOn (old new : Ram) : Type 0 where
  pub block : Pinned
  pub step : Step
  pub which : IsBlockOf old block
  pub stepped : HasStepped false block (pinned_to (Some block) old) new step

-- no collection is under way, and none begins: as many blocks are free as a turn wants, or none is worth it
pub record HasNoneToCollect (r : Ram) : Type 0 where
  pub unpinned : r.pin.block ≡ None
  pub made : IsMade (wanted reserve.Turn r) r

-- why nothing is done: the page was not found that the counts have in a bad block, or there is none to collect
abbrev pub HasNothingToDo : Ram → Type 0
HasNothingToDo r = HasAiling r.blocks ⊎ HasNoneToCollect r

-- what is done once there is room: nothing, for one of these reasons, or a page was rescued where a bad block holds one, or else a collection went on
abbrev pub TurnsOn : Ram → Ram → Type 0
TurnsOn old new = ((new ≡ old) × HasNothingToDo old) ⊎ (HasAiling old.blocks × HasRescuedPage old new) ⊎ (HasNoneAiling old.blocks × HasGoneOn old new)

-- A TURN THAT IS DONE, whatever the die does: room was made as for a write, and then that
pub record HasTurned (old new : Ram) : Type 0 where
  pub mid : Ram
  pub room : HasMadeRoom 9 false old mid
  pub on : TurnsOn mid new
