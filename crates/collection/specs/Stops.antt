-- What a stop in the middle of a call leaves on the die.
use Rattle.std.specs.Prelude.{◌≡◌, ◌⊎◌, ◌+◌, ◌<◌, ◌^◌, ℕ, min, List, Option, IsSome}
use Rattle.page_layout.specs.View.{View}
use Rattle.page_layout.specs.declared.geometry.Geometry.{Geometry}
use Rattle.page_layout.specs.Page.{Image}
use Rattle.page_layout.specs.Array.{array_of}
use Rattle.page_layout.specs.declared.record.Kind.{Kind}
use Rattle.page_layout.specs.declared.record.Record.{Record}
use Rattle.page_layout.specs.Change.{Keeps, Writes}
use Rattle.page_layout.specs.Flash.{Operation}
use Rattle.page_layout.specs.Recording.{Recording, Records}
use Rattle.promises.specs.Stop.{CutShort, LeavesOnly}
use Rattle.image_check.specs.Mountable.{IsOrderly}
use Rattle.collection.specs.declared.engine.Engine.{Engine}
use Rattle.collection.specs.State.{Ram}
use Rattle.collection.specs.Safe.{ram, image_in}
use Rattle.collection.specs.Results.{array_after}
use Rattle.collection.specs.Collect.{waiting}

-- for how many stale sectors an image mounts that this memory's device leaves: those that are cached and those that may be moved, and never more than there are
abbrev pub room_of : Ram → ℕ
room_of r = min r.geometry.sectors (r.mapping.capacity + (waiting r + r.geometry.pages))

-- AN IMAGE THAT A STOP IN A CALL MAY LEAVE: its array is the one before the call or the one after it, and it mounts
pub record IsLeftByStop (r : Ram) (before after left : Image) : Type 0 where
  pub array : (array_of r.geometry left ≡ array_of r.geometry before) ⊎ (array_of r.geometry left ≡ array_of r.geometry after)
  pub orderly : IsOrderly r.geometry (room_of r) left

-- the same in the program of a page, whose row is to be set: nothing that counts has changed, or it is done
abbrev pub IsKeptOr : Geometry → Image → Image → Image → Type 0
IsKeptOr g before after left = Keeps g before left ⊎ (left ≡ after)

-- WHATEVER A STOP IN THE CALL LEAVES IS SO, by a log of what the die did, and of what its record has gained
abbrev pub Stops : {N : Type 0} → View N → (Image → Type 0) → Engine N → Engine N → Type 0
Stops view is_so old new = LeavesOnly (view.flash old.nand) (view.flash new.nand) (view.recorded old.nand) (view.recorded new.nand) is_so

-- A CALL THAT A STOP MAY CUT SHORT: whatever the stop leaves mounts, and has the array before the call or the one after it
abbrev pub StopsSafely : {N : Type 0} → View N → Engine N → Engine N → Type 0
StopsSafely view old new = Stops view (IsLeftByStop (ram old) (image_in view.flash old) (image_in view.flash new)) old new

-- ---- calls that a fault of the die ended

-- what one program may leave, that a fault ended: nothing that counts has changed, or the row has the page
abbrev pub IsKeptOrWritten : Geometry → Record → ℕ → List ℕ → Image → Image → Type 0
IsKeptOrWritten g its row body before left = Keeps g before left ⊎ Writes g its row body before left

-- a page of this kind and number is there, its row not yet set in memory, and a sequence is left for another
pub record IsHalfPut (kind : Kind) (n : ℕ) (body : List ℕ) (g : Geometry) (before left : Image) : Type 0 where
  pub its : Record
  pub row : ℕ
  pub of_kind : its.kind ≡ kind
  pub of_number : its.number ≡ n
  pub more : its.sequence + 1 < 2 ^ 64
  pub writes : Writes g its row body before left

-- the same of a page with its tries
abbrev pub IsKeptOrPut : Kind → ℕ → List ℕ → Geometry → Image → Image → Type 0
IsKeptOrPut kind n body g before left = Keeps g before left ⊎ IsHalfPut kind n body g before left

-- AN IMAGE THAT IS LEFT of a call that keeps the array: it has that array, and it mounts
pub record IsKeptByStop (r : Ram) (before left : Image) : Type 0 where
  pub array : array_of r.geometry left ≡ array_of r.geometry before
  pub orderly : IsOrderly r.geometry (room_of r) left

-- AND OF ONE THAT PUTS A PAGE: it has the array from before, or with what the page gives its sector
pub record IsPutByStop (kind : Kind) (n : ℕ) (body : List ℕ) (r : Ram) (before left : Image) : Type 0 where
  pub array : (array_of r.geometry left ≡ array_of r.geometry before) ⊎ (array_of r.geometry left ≡ array_after r.geometry kind n body (array_of r.geometry before))
  pub orderly : IsOrderly r.geometry (room_of r) left

-- WHATEVER THE DIE IS LEFT WITH, AS A FAULT OF IT ENDS THE CALL, IS SO, by what it did and what was at hand, which its record tells
abbrev pub Cuts : {N : Type 0} → View N → (Image → Type 0) → Engine N → Engine N → Type 0
Cuts view is_so old new = CutShort (view.flash old.nand) (view.recorded old.nand) (view.recorded new.nand) is_so

-- A CALL THAT KEEPS THE ARRAY, also where a fault ends it
abbrev pub CutsSafely : {N : Type 0} → View N → Engine N → Engine N → Type 0
CutsSafely view old new = Cuts view (IsKeptByStop (ram old) (image_in view.flash old)) old new

-- ---- laws

-- one record, one list of operations: two lists that a record gained in a call are the same, where it is told as the call ends
abbrev pub OneGainLaw : Type 0
OneGainLaw = (told told' : Option Recording) (xs ys : List Operation) → IsSome told' → Records told xs told' → Records told ys told' → xs ≡ ys
