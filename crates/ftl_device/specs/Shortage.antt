-- Why a call that began with nine free blocks runs short of them only where blocks fail.
use Rattle.std.specs.Prelude.{◌≡◌, ◌⊎◌, ℕ, ◌+◌, ◌<◌, ◌≤◌, Bool, true, false, Result, Ok, Err}
use Rattle.page_layout.specs.Geometry.{need_at}
use Rattle.page_layout.specs.Page.{Image}
use Rattle.bad_blocks.specs.Table.{good_count}
use Rattle.budget.specs.declared.stream.Stream.{Stream}
use Rattle.budget.specs.Counts.{Counts}
use Rattle.budget.specs.declared.stream.Stream.TheVariants.{Meta}
use Rattle.budget.specs.Spending.{Spending, IsFunded}
use Rattle.allocation.specs.State.{free_count}
use Rattle.allocation.specs.Counts.{counts_of}
use Rattle.collection.specs.declared.fault.EngineFault.{EngineFault}
use Rattle.collection.specs.declared.fault.EngineFault.TheVariants as engine_fault
use Rattle.collection.specs.State.{Ram}
use Rattle.collection.specs.Safe.{IsRam}
use Rattle.collection.specs.Cost.{HasRunOut, HasSpent}
use Rattle.ftl_device.specs.declared.fault.CallFault.{CallFault}
use Rattle.ftl_device.specs.declared.fault.CallFault.TheVariants as call
use Rattle.ftl_device.specs.declared.fault.CallFault.TheVariants.{Engine}
use Rattle.ftl_device.specs.Calls.{Knows, HasMadeRoom}
use Rattle.ftl_device.specs.Flush.{AddsAtMost, FailsAmong, WritesTables}

-- at most so many pages were programmed, in either stream
pub record HasUsed (most : ℕ) (old new : Ram) : Type 0 where
  pub data_pages : ℕ
  pub meta_pages : ℕ
  pub few : data_pages + meta_pages ≤ most
  pub account : (first : Counts) (d m : ℕ) → Spending old.geometry.pages first (counts_of old.blocks) d m → Spending old.geometry.pages first (counts_of new.blocks) (d + data_pages) (m + meta_pages)

-- and then a page found no block
pub record HasFoundNoBlock (most : ℕ) (old new : Ram) : Type 0 where
  pub mid : Ram
  pub geometry : mid.geometry ≡ old.geometry
  pub used : HasUsed most old mid
  pub stream : Stream
  pub out : HasRunOut stream mid new

-- what a call that changes a sector costs once there is room for it: a translation page and a page of the sector, at most
abbrev pub CallCosts : Ram → Ram → Result (Unit {0}) CallFault → Type 0
CallCosts old new (Ok done) = HasUsed 2 old new
CallCosts old new (Err (Engine engine_fault.ReadOnly)) = HasFoundNoBlock 1 old new
CallCosts old new (Err (Engine engine_fault.SequenceSpent)) = Unit {0}
CallCosts old new (Err (Engine engine_fault.Damaged)) = Unit {0}
CallCosts old new (Err (Engine engine_fault.Bus)) = Unit {0}
CallCosts old new (Err call.OutOfMemory) = HasUsed 1 old new

-- what that says of free and of failed blocks
abbrev pub CallCounts : Ram → Ram → Result (Unit {0}) CallFault → Type 0
CallCounts old new (Ok done) = (5 ≤ free_count new.blocks) ⊎ (3 + good_count new.blocks.table ≤ good_count old.blocks.table)
CallCounts old new (Err (Engine engine_fault.ReadOnly)) = 3 + good_count new.blocks.table ≤ good_count old.blocks.table
CallCounts old new (Err (Engine engine_fault.SequenceSpent)) = Unit {0}
CallCounts old new (Err (Engine engine_fault.Damaged)) = Unit {0}
CallCounts old new (Err (Engine engine_fault.Bus)) = Unit {0}
CallCounts old new (Err call.OutOfMemory) = (5 ≤ free_count new.blocks) ⊎ (3 + good_count new.blocks.table ≤ good_count old.blocks.table)

-- ---- room, and what is programmed after it

-- fewer blocks are good than the geometry asks for, or three have failed
abbrev pub LacksGood : Ram → Ram → Type 0
LacksGood old new = (good_count new.blocks.table < need_at old.geometry old.mapping.share) ⊎ (3 + good_count new.blocks.table ≤ good_count old.blocks.table)

-- what has to be known before a call for its free blocks to be counted: the memory is true of the image, and the pool has five blocks' pages
abbrev pub HasFunds : Bool → Ram → Image → Type 0
HasFunds honest r image = (honest ≡ true) × Knows r image × IsFunded r.geometry.pages 0 (counts_of r.blocks)

-- Room was made. Where so much is known, nine blocks are free, unless fewer are good than the geometry asks for.
pub record AfterRoom (known : Type 0) (old new : Ram) : Type 0 where
  pub safe : IsRam new
  pub room : HasMadeRoom 9 false old new
  pub nine : known → (good_count new.blocks.table < need_at old.geometry old.mapping.share) ⊎ (9 ≤ free_count new.blocks)

-- and then at most so many pages were programmed
pub record UsesRoom (known : Type 0) (most : ℕ) (old new : Ram) : Type 0 where
  pub mid : Ram
  pub after : AfterRoom known old mid
  pub used : HasUsed most mid new

-- or, after at most one page, none found a block
pub record FailsRoom (known : Type 0) (old new : Ram) : Type 0 where
  pub mid : Ram
  pub after : AfterRoom known old mid
  pub failed : HasFoundNoBlock 1 mid new

-- no room was to be made
pub record LacksRoom (known : Type 0) (old new : Ram) : Type 0 where
  pub scarce : free_count new.blocks < 5
  pub lacks : known → LacksGood old new

-- what a place for a sector's entry costs
abbrev pub PlaceCosts : Ram → Ram → Result (Unit {0}) EngineFault → Type 0
PlaceCosts old new (Ok done) = HasUsed 1 old new
PlaceCosts old new (Err engine_fault.ReadOnly) = HasFoundNoBlock 0 old new
PlaceCosts old new (Err engine_fault.SequenceSpent) = HasSpent Meta old new
PlaceCosts old new (Err engine_fault.Damaged) = Unit {0}
PlaceCosts old new (Err engine_fault.Bus) = Unit {0}

-- what room and at most so many pages cost, by what is answered
abbrev pub RoomCosts : {A : Type 0} → Type 0 → ℕ → Ram → Ram → Result A EngineFault → Type 0
RoomCosts known most old new (Ok answer) = UsesRoom known most old new
RoomCosts known most old new (Err engine_fault.ReadOnly) = LacksRoom known old new ⊎ FailsRoom known old new
RoomCosts known most old new (Err engine_fault.SequenceSpent) = Unit {0}
RoomCosts known most old new (Err engine_fault.Damaged) = Unit {0}
RoomCosts known most old new (Err engine_fault.Bus) = Unit {0}

-- the same of a call that may want memory too, before its last page
abbrev pub CallRoomCosts : Type 0 → ℕ → Ram → Ram → Result (Unit {0}) CallFault → Type 0
CallRoomCosts known most old new (Ok done) = UsesRoom known most old new
CallRoomCosts known most old new (Err (Engine engine_fault.ReadOnly)) = LacksRoom known old new ⊎ FailsRoom known old new
CallRoomCosts known most old new (Err (Engine engine_fault.SequenceSpent)) = Unit {0}
CallRoomCosts known most old new (Err (Engine engine_fault.Damaged)) = Unit {0}
CallRoomCosts known most old new (Err (Engine engine_fault.Bus)) = Unit {0}
CallRoomCosts known most old new (Err call.OutOfMemory) = UsesRoom known 1 old new

-- what that says of a call that began with five free blocks
abbrev pub CallShort : Ram → Ram → Result (Unit {0}) CallFault → Type 0
CallShort old new (Ok done) = LacksGood old new ⊎ (5 ≤ free_count new.blocks)
CallShort old new (Err (Engine engine_fault.ReadOnly)) = LacksGood old new
CallShort old new (Err (Engine engine_fault.SequenceSpent)) = Unit {0}
CallShort old new (Err (Engine engine_fault.Damaged)) = Unit {0}
CallShort old new (Err (Engine engine_fault.Bus)) = Unit {0}
CallShort old new (Err call.OutOfMemory) = LacksGood old new ⊎ (5 ≤ free_count new.blocks)

-- ---- a step of a collection

-- it takes one page at most, in either stream, or gives a block back, or loses one
abbrev pub StepCounts : Ram → Ram → Result (Unit {0}) EngineFault → Type 0
StepCounts old new (Ok done) = HasUsed 1 old new ⊎ (free_count old.blocks + good_count new.blocks.table ≤ free_count new.blocks + good_count old.blocks.table)
StepCounts old new (Err engine_fault.ReadOnly) = HasFoundNoBlock 0 old new
StepCounts old new (Err engine_fault.SequenceSpent) = Unit {0}
StepCounts old new (Err engine_fault.Damaged) = Unit {0}
StepCounts old new (Err engine_fault.Bus) = Unit {0}

-- ---- a flush

-- With so many failures before it the pool held five blocks' pages but for a block for each failure, and so it does now; or fewer blocks are
-- good than the geometry asks for.
abbrev pub FlushFunded : ℕ → Ram → Ram → Type 0
FlushFunded failures old new = (good_count new.blocks.table < need_at old.geometry old.mapping.share)
    ⊎ ((its_failures : ℕ) × (good_count old.blocks.table ≡ good_count new.blocks.table + its_failures) × IsFunded old.geometry.pages (failures + its_failures) (counts_of new.blocks))

-- translation pages that are written back, one after another
abbrev pub FlushCounts : ℕ → Ram → Ram → Result (Unit {0}) EngineFault → Type 0
FlushCounts failures old new (Ok done) = FlushFunded failures old new
FlushCounts failures old new (Err engine_fault.ReadOnly) = (good_count new.blocks.table < need_at old.geometry old.mapping.share) ⊎ (3 + good_count new.blocks.table ≤ failures + good_count old.blocks.table)
FlushCounts failures old new (Err engine_fault.SequenceSpent) = Unit {0}
FlushCounts failures old new (Err engine_fault.Damaged) = Unit {0}
FlushCounts failures old new (Err engine_fault.Bus) = Unit {0}

-- ABOVE SHARE 0, where nothing is collected meanwhile: at most so many translation pages, whatever the die does. Refused, some of them, and then too
-- few blocks were free, or one found no block.
abbrev pub SpendsPages : ℕ → Ram → Ram → Result (Unit {0}) EngineFault → Type 0
SpendsPages most old new (Ok done) = AddsAtMost most old new
SpendsPages most old new (Err engine_fault.ReadOnly) = (AddsAtMost most old new × (free_count new.blocks < 5)) ⊎ FailsAmong most old new
SpendsPages most old new (Err engine_fault.SequenceSpent) = Unit {0}
SpendsPages most old new (Err engine_fault.Damaged) = Unit {0}
SpendsPages most old new (Err engine_fault.Bus) = Unit {0}

-- a whole flush: done, it may leave fewer than five free blocks where two have failed
abbrev pub FlushShort : Ram → Ram → Result (Unit {0}) CallFault → Type 0
FlushShort old new (Ok done) = LacksGood old new ⊎ (2 + good_count new.blocks.table ≤ good_count old.blocks.table) ⊎ (5 ≤ free_count new.blocks)
FlushShort old new (Err (Engine engine_fault.ReadOnly)) = LacksGood old new
FlushShort old new (Err (Engine engine_fault.SequenceSpent)) = Unit {0}
FlushShort old new (Err (Engine engine_fault.Damaged)) = Unit {0}
FlushShort old new (Err (Engine engine_fault.Bus)) = Unit {0}
FlushShort old new (Err call.OutOfMemory) = ⊥

-- ---- laws

-- with nine free blocks a call ends with five, or three blocks have failed in it
abbrev pub LeavesFiveLaw : Type 0
LeavesFiveLaw = (old new : Ram) (result : Result (Unit {0}) CallFault) → IsRam old → 9 ≤ free_count old.blocks → CallCosts old new result → CallCounts old new result

-- with nine free blocks table pages leave five, or two blocks have failed meanwhile; and four, or three have
pub record LeavesFour (old new : Ram) : Type 0 where
  pub five : (5 ≤ free_count new.blocks) ⊎ (2 + good_count new.blocks.table ≤ good_count old.blocks.table)
  pub four : (4 ≤ free_count new.blocks) ⊎ (3 + good_count new.blocks.table ≤ good_count old.blocks.table)

abbrev pub TablesLeaveLaw : Type 0
TablesLeaveLaw = (old new : Ram) → 9 ≤ free_count old.blocks → WritesTables old new → LeavesFour old new
