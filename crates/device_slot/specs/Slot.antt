-- WHAT STANDS IN A SLOT.
use Rattle.std.specs.Prelude.{◌≡◌, ◌≤◌, ◌<◌, ◌+◌, ℕ, Option, Some, None, length, List}
use Rattle.bad_blocks.specs.declared.table.TableRow.{TableRow}
use Rattle.bad_blocks.specs.Table.{good_count, wear_at}
use Rattle.allocation.specs.State.{free_count}
use Rattle.allocation.specs.View.{state}
use Rattle.ftl_device.specs.declared.device.Device.{Device}
use Rattle.ftl_device.specs.Calls.{stop_of}
use Rattle.device_slot.specs.declared.slot.Shortage.{Shortage}
use Rattle.device_slot.specs.declared.report.Report.{Report}

-- a device, or none, and the counts of the last refusal for want of blocks
pub record SlotState (N : Type 0) : Type 0 where
  pub device : Option (Device N)
  pub shortage : Option Shortage

-- no block has a greater erase count, and some block has this one; 0 of a table with no block
pub record IsMostWorn (table : List TableRow) (most : ℕ) : Type 0 where
  pub above : (b : ℕ) → b < length table → wear_at table b ≤ most
  pub some : 0 < length table → (b : ℕ) × (b < length table) × (wear_at table b ≡ most)
  pub none : length table ≡ 0 → most ≡ 0

-- HOW A DEVICE STANDS
pub record DeviceStands {N : Type 0} (d : Device N) (r : Report) : Type 0 where
  pub free : r.free ≡ free_count (state d.engine.blocks)
  pub good : r.good ≡ good_count (state d.engine.blocks).table
  pub bad : r.good + r.bad ≡ d.engine.geometry.blocks
  pub worn : IsMostWorn (state d.engine.blocks).table r.most_erases
  pub read_only : r.read_only ≡ d.read_only
  pub stopped : r.stopped ≡ stop_of d.engine.fault

-- of a device that stands there
abbrev pub Reports : {N : Type 0} → Option (Device N) → Option Report → Type 0
Reports None None = Unit {0}
Reports None (Some r) = ⊥
Reports (Some d) None = ⊥
Reports (Some d) (Some r) = DeviceStands d r

-- the die of a device, if there is one
abbrev pub nand_in : {N : Type 0} → Option (Device N) → Option N
nand_in None = None
nand_in (Some d) = Some d.engine.nand
