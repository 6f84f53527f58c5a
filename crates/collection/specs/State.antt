-- An engine's memory, as contracts see it.
use Rattle.std.specs.Prelude.{ℕ, Bool, List, Option}
use Rattle.page_layout.specs.declared.geometry.Geometry.{Geometry}
use Rattle.mapping_cache.specs.Mapping.{MappingState}
use Rattle.allocation.specs.State.{State}
use Rattle.collection.specs.declared.engine.Pinned.{Pinned}
use Rattle.collection.specs.declared.fault.EngineFault.{EngineFault}

-- what is being collected
pub record Pin : Type 0 where
  -- the block, where one is collected from turn to turn
  pub block : Option Pinned
  -- for each translation page, whether a sector of it was copied in a flush since it was last written
  pub marks : List Bool

pub record Ram : Type 0 where
  pub geometry : Geometry
  -- the row of each translation page and then of each table page
  pub directory : List (Option ℕ)
  pub mapping : MappingState
  pub blocks : State
  -- the sequence of the page that is programmed next
  pub next : ℕ
  -- the fault that every call answers again that programs or makes room
  pub fault : Option EngineFault
  pub pin : Pin
