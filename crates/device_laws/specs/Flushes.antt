-- What a flush is worth, and when there is a shortage.
use Rattle.std.specs.Prelude.{◌≡◌, ℕ, ◌≤◌, Bool, false, List, [], Ok}
use Rattle.page_layout.specs.declared.geometry.Geometry.{Geometry}
use Rattle.page_layout.specs.declared.record.Key.TheVariants.{Table}
use Rattle.page_layout.specs.Page.{Image}
use Rattle.page_layout.specs.Flash.{Operation}
use Rattle.page_layout.specs.Sound.{version_for}
use Rattle.page_layout.specs.Version.{is_old}
use Rattle.promises.specs.Step.{Command}
use Rattle.promises.specs.Log.{failed_count, IsShort}
use Rattle.image_check.specs.Stale.{stale_sectors}
use Rattle.ftl_device.specs.declared.fault.DeviceFault.TheVariants.{ReadOnly}
use Rattle.ftl_device.specs.Counts.{IsShownByRefusal, IsLeftReadOnly}
use Rattle.ftl_device.specs.Flush.{First, IsFlushedOut}

-- NO SECTOR IS STALE after a flush that is done
abbrev pub NoneStaleLaw : Type 0
NoneStaleLaw = (first : First) (log : List Operation) (image : Image) → IsFlushedOut first log image → stale_sectors first.geometry image ≡ []

-- NOR IS A TABLE PAGE OF VERSION 1, whichever it is, where the die has version 2
abbrev pub NoTableOldLaw : Type 0
NoTableOldLaw = (first : First) (log : List Operation) (image : Image) (u : ℕ) → IsFlushedOut first log image → version_for first.geometry ≡ 2 → is_old image (Table u) ≡ false

-- ONE FAILURE LEAVES NO DEVICE READ-ONLY, in a flush that is done as in any other call, unless there is a shortage
abbrev pub OneFailureLaw : Type 0
OneFailureLaw = (command : Command) (g : Geometry) (share : ℕ) (bad : ℕ → Bool) (before call : List Operation) (ro : Bool) → failed_count g call ≤ 1
    → IsLeftReadOnly command g share bad before call ro (Ok tt) → IsShort g share bad before call ro

-- READ-ONLY IS ANSWERED IN A SHORTAGE alone
abbrev pub ShownShortLaw : Type 0
ShownShortLaw = (g : Geometry) (share : ℕ) (bad : ℕ → Bool) (next : ℕ) (before call : List Operation) (ro : Bool) (image : Image) (good wanted failed : ℕ)
    → IsShownByRefusal g share bad next before call ro image (ReadOnly good wanted failed) → IsShort g share bad before call ro

-- AND TELLS THE FAILURES OF ITS OWN CALL, not those of the calls before it
abbrev pub CallFailuresLaw : Type 0
CallFailuresLaw = (g : Geometry) (share : ℕ) (bad : ℕ → Bool) (next : ℕ) (before call : List Operation) (ro : Bool) (image : Image) (good wanted failed : ℕ)
    → IsShownByRefusal g share bad next before call ro image (ReadOnly good wanted failed) → failed ≡ failed_count g call
