-- Which block a turn goes on with, and what it does first.
use Rattle.std.specs.Prelude.{◌≡◌, ◌⊎◌, ◌+◌, ◌<◌, ◌≤◌, true, Some, None}
use Rattle.page_layout.specs.Geometry.{vmax_at, flush_blocks_at}
use Rattle.allocation.specs.State.{live_at, is_closed, free_count}
use Rattle.collection.specs.declared.engine.Pinned.{Pinned}
use Rattle.collection.specs.State.{Ram}
use Rattle.collection.specs.Collect.{HasAiling, HasRescuedPage}
use Rattle.ftl_device.specs.Turn.{HasGoneOn, TurnsOn}

-- A TURN GOES ON with the pinned block, from the page on where it stood
abbrev pub TurnGoesOnLaw : Type 0
TurnGoesOnLaw = (old new : Ram) (pinned : Pinned) (on : HasGoneOn old new) → old.pin.block ≡ Some pinned → on.block ≡ pinned

-- IT BEGINS A COLLECTION with fewer than twelve blocks free beside those of a flush alone, of a closed block that pays, from page 0
abbrev pub BeginsLaw : Type 0
BeginsLaw = (old new : Ram) (on : HasGoneOn old new) → old.pin.block ≡ None
    → (free_count old.blocks < 12 + flush_blocks_at old.geometry old.mapping.share) × (on.block.first ≡ 0) × (is_closed old.blocks on.block.block ≡ true) × (live_at old.blocks on.block.block ≤ vmax_at old.geometry old.mapping.share)

-- BAD BLOCKS COME FIRST: while one holds a newest page a turn rescues a page or does nothing
abbrev pub RescueFirstLaw : Type 0
RescueFirstLaw = (old new : Ram) → TurnsOn old new → HasAiling old.blocks → (new ≡ old) ⊎ HasRescuedPage old new
