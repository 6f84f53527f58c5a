-- HOW A DISK STANDS, all of one moment, as C gets it.
use Rattle.std.specs.Prelude.{◌≡◌, ◌⊎◌, ℕ, Bool, List, Option, Some, None, is_some, slice_index, if◌then◌else◌}
use Rattle.ftl_device.specs.declared.device.Device.{Device}
use Rattle.ftl_device.specs.declared.fault.DeviceFault.{DeviceFault}
use Rattle.ftl_device.specs.Calls.{device_fault_number}
use Rattle.corrected_nand.specs.Errors as counted
use Rattle.device_slot.specs.declared.slot.Shortage.{Shortage}
use Rattle.device_slot.specs.declared.report.Report.{Report}
use Rattle.device_slot.specs.Slot.{Reports, nand_in}
use Rattle.page_layout.specs.Change.{one_if}
use Rattle.ftl_disk.specs.declared.disk.WayDisk.{WayDisk}
use Rattle.ftl_disk.specs.declared.either.EitherDie.{EitherDie}
use Rattle.ftl_disk.specs.declared.either.EitherDie.TheVariants.{Plain, Coded}
use Rattle.ftl_disk.specs.declared.look.Errors.{Errors}
use Rattle.ftl_disk.specs.declared.look.Lack.{Lack}
use Rattle.ftl_disk.specs.declared.look.State.{State}
use Rattle.ftl_disk.specs.declared.look.View.{View}
use Rattle.ftl_disk.specs.declared.plan.Plan.{Plan}
use Rattle.ftl_disk.specs.declared.shape.Shape.{Shape}

-- the numbers that it was opened with
abbrev pub shape_of : Plan → Shape
shape_of p = record {
  data_bytes = p.geometry.data_bytes;
  spare_bytes = p.geometry.spare_bytes;
  pages = p.geometry.pages;
  blocks = p.geometry.blocks;
  sectors = p.geometry.sectors;
  cache = p.cache;
  codes = one_if (is_some p.chip);
}

abbrev pub stop_number : Option DeviceFault → ℕ
stop_number None = 0
stop_number (Some fault) = device_fault_number fault

-- how its device stands
abbrev pub reported_state : Option Report → State
reported_state None = record { free_blocks = 0; good_blocks = 0; bad_blocks = 0; most_erases = 0; read_only = 0; stopped = 0 }
reported_state (Some r) = record { free_blocks = r.free; good_blocks = r.good; bad_blocks = r.bad; most_erases = r.most_erases; read_only = one_if r.read_only; stopped = stop_number r.stopped }

-- the counts of the last refusal for want of blocks
abbrev pub lack_of : Option Shortage → Lack
lack_of None = record { good = 0; need = 0; failed = 0 }
lack_of (Some s) = record { good = s.good; need = s.need; failed = s.failed }

-- the first of the blocks that have the most, and how many; or 0 and 0 where none has any
abbrev pub IsWorst : (counts : List ℕ) → (block count : ℕ) → Type 0
IsWorst counts block count = (counted.IsMost counts block × (count ≡ slice_index counts block)) ⊎ (counted.AreNone counts × (block ≡ 0) × (count ≡ 0))

-- what was wrong with reads, and where most
pub record AreErrors (e : counted.Errors) (told : Errors) : Type 0 where
  pub turned : told.turned ≡ e.turned
  pub lost : told.lost ≡ e.lost
  pub most_turned : IsWorst e.turned_in told.most_turned_block told.most_turned
  pub most_lost : IsWorst e.lost_in told.most_lost_block told.most_lost

abbrev pub TellsErrors : Option counted.Errors → Errors → Type 0
TellsErrors None told = told ≡ record { turned = 0; lost = 0; most_turned = 0; most_lost = 0; most_turned_block = 0; most_lost_block = 0 }
TellsErrors (Some e) told = AreErrors e told

-- what was wrong with the reads of a die whose pages have codes
abbrev pub errors_of : {W : Type 0} → EitherDie W → Option counted.Errors
errors_of (Plain die) = None
errors_of (Coded die) = Some die.errors

abbrev pub errors_at : {W : Type 0} → Option (EitherDie W) → Option counted.Errors
errors_at None = None
errors_at (Some die) = errors_of die

abbrev pub errors_in : {W : Type 0} → Option (Device (EitherDie W)) → Option counted.Errors
errors_in device = errors_at (nand_in device)

-- A DISK AT ONE MOMENT
pub record IsViewOf {W : Type 0} (d : WayDisk W) (v : View) : Type 0 where
  pub errors : TellsErrors (errors_in d.slot.device) v.errors
  pub shape : v.shape ≡ shape_of d.plan
  pub report : Option Report
  pub reports : Reports d.slot.device report
  pub started : v.is_started ≡ one_if (is_some report)
  pub state : v.state ≡ reported_state report
  pub short : v.is_short ≡ one_if (is_some d.slot.shortage)
  pub lack : v.lack ≡ lack_of d.slot.shortage

-- A LOOK: the disk stays
pub record Looks {W : Type 0} (was : WayDisk W) (number : ℕ) (view : View) (is : WayDisk W) : Type 0 where
  pub done : number ≡ 0
  pub same : is ≡ was
  pub shows : IsViewOf was view
