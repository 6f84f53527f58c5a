-- What a stop inside a call leaves of the array: one line of time, and an image of the die at each moment of it.
use Rattle.std.specs.Prelude.{◌≡◌, ◌≢◌, ◌⊎◌, ◌+◌, ◌≤◌, ℕ, Bool, true, false, List, ◌<◌, slice_get, Option, Some, IsSome, Result, Ok, Err}
use Rattle.page_layout.specs.declared.geometry.Geometry.{Geometry}
use Rattle.page_layout.specs.Page.{Image}
use Rattle.page_layout.specs.Array.{array_of}
use Rattle.page_layout.specs.Flash.{Operation}
use Rattle.page_layout.specs.Recording.{Recording}
use Rattle.promises.specs.Step.{Command, Read, Write, Trim, Flush, Turn, ArrayStep}
use Rattle.promises.specs.Stop.{MayLeave}
use Rattle.image_check.specs.Mountable.{IsMountable}
use Rattle.ftl_device.specs.declared.fault.DeviceFault.{DeviceFault}
use Rattle.ftl_device.specs.Calls.{reply_of}

-- the command changes a sector, where it is done
abbrev pub changes_sector : Command → Bool
changes_sector (Read sector) = false
changes_sector (Write sector body) = true
changes_sector (Trim sector) = true
changes_sector Flush = false
changes_sector Turn = false

-- the array before the call; or the one after it, of a write or a trim that was done
abbrev pub HoldsEither : Geometry → Command → Result (Unit {0}) DeviceFault → (before after left : Image) → Type 0
HoldsEither g command result before after left =
    (array_of g left ≡ array_of g before) ⊎ ((changes_sector command ≡ true) × (result ≡ Ok tt) × (array_of g left ≡ array_of g after))

-- AN IMAGE THAT A STOP INSIDE A CALL LEAVES, of a device that leaves at most so many stale entries: it holds either array, and it mounts
pub record Survives (g : Geometry) (room : ℕ) (command : Command) (result : Result (Unit {0}) DeviceFault) (before after left : Image) : Type 0 where
  pub array : HoldsEither g command result before after left
  pub mountable : room ≤ 65536 → IsMountable g room left

-- A CALL THAT MAY BE STOPPED AT ANY MOMENT: where the die tells a record as the call ends, so is each image that a stop may leave by the
-- operations of the call
abbrev pub SurvivesStops : Geometry → ℕ → Command → Result (Unit {0}) DeviceFault → (before after : Image) → Option Recording → List Operation → Type 0
SurvivesStops g room command result before after told log = IsSome told → (left : Image) → MayLeave g before log left → Survives g room command result before after left

-- AN IMAGE THAT IS LEFT OF A CALL that a fault of the die ended: it holds the array from before the call, or of a write or a trim the one after it, were it done; and it mounts
pub record SurvivesCut (g : Geometry) (room : ℕ) (command : Command) (before left : Image) : Type 0 where
  pub array : (array_of g left ≡ array_of g before)
      ⊎ ((changes_sector command ≡ true) × ArrayStep g (record { array = array_of g before; ro = false }) command (reply_of (Ok tt)) (record { array = array_of g left; ro = false }))
  pub mountable : room ≤ 65536 → IsMountable g room left

-- ---- laws

-- of a call that a fault ended too: a read, a flush and a turn change nothing, and a write no sector but its own
abbrev pub QuietCutLaw : Type 0
QuietCutLaw = (g : Geometry) (room : ℕ) (command : Command) (before left : Image) → changes_sector command ≡ false → SurvivesCut g room command before left → array_of g left ≡ array_of g before

abbrev pub OtherSectorCutLaw : Type 0
OtherSectorCutLaw = (g : Geometry) (room n m : ℕ) (body : List ℕ) (before left : Image) → m ≢ n → SurvivesCut g room (Write m body) before left → slice_get (array_of g left) n ≡ slice_get (array_of g before) n

-- a read, a flush and a turn lose nothing and change nothing, whatever they are answered
abbrev pub QuietStopLaw : Type 0
QuietStopLaw = (g : Geometry) (room sector : ℕ) (result : Result (Unit {0}) DeviceFault) (before after left : Image)
    → (Survives g room (Read sector) result before after left → array_of g left ≡ array_of g before)
    × (Survives g room Flush result before after left → array_of g left ≡ array_of g before)
    × (Survives g room Turn result before after left → array_of g left ≡ array_of g before)

-- nor does a command that is refused
abbrev pub RefusedStopLaw : Type 0
RefusedStopLaw = (g : Geometry) (room : ℕ) (command : Command) (fault : DeviceFault) (before after left : Image)
    → Survives g room command (Err fault) before after left → array_of g left ≡ array_of g before

-- the image mounts for as many stale entries as the device leaves
abbrev pub MountsStopLaw : Type 0
MountsStopLaw = (g : Geometry) (room : ℕ) (command : Command) (result : Result (Unit {0}) DeviceFault) (before after left : Image)
    → Survives g room command result before after left → room ≤ 65536 → IsMountable g room left

-- WHAT WAS ANSWERED STAYS: after a write that was done, a stop inside a later write of another sector leaves its bytes
abbrev pub AnsweredStaysLaw : Type 0
AnsweredStaysLaw = (g : Geometry) (room n m : ℕ) (body other : List ℕ) (result : Result (Unit {0}) DeviceFault) (old before after left : Image) (ro mid on : Bool) → n < g.sectors → m ≢ n
    → ArrayStep g (record { array = array_of g old; ro = ro }) (Write n body) (reply_of (Ok tt)) (record { array = array_of g before; ro = mid })
    → ArrayStep g (record { array = array_of g before; ro = mid }) (Write m other) (reply_of result) (record { array = array_of g after; ro = on })
    → Survives g room (Write m other) result before after left → slice_get (array_of g left) n ≡ Some body
