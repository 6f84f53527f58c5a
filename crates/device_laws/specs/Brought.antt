-- How many calls brought a page of version 1 forward, where room was made for them.
use Rattle.std.specs.Prelude.{◌≡◌, ℕ, zero, suc, ◌+◌, ◌≤◌, Bool, true}
use Rattle.page_layout.specs.View.{View}
use Rattle.page_layout.specs.declared.record.Key.{Key}
use Rattle.page_layout.specs.Flash.{Leads}
use Rattle.page_layout.specs.Sound.{version_for}
use Rattle.page_layout.specs.Version.{HasOldAt}
use Rattle.promises.specs.Log.{programs_in}
use Rattle.allocation.specs.State.{free_count}
use Rattle.allocation.specs.Counts.{counts_of}
use Rattle.collection.specs.declared.engine.Engine.{Engine}
use Rattle.collection.specs.State.{Ram}
use Rattle.collection.specs.Safe.{ram, image_in}
use Rattle.collection.specs.Collect.{HasRescuedPage}
use Rattle.collection.specs.Renew.{IsRenewedPage}
use Rattle.ftl_device.specs.declared.device.Device.{Device}
use Rattle.ftl_device.specs.Brings.{MadeRoom, HasBrought, BringsOne}

-- A CALL BROUGHT A PAGE FORWARD, and of the pages of version 1 making room for it left just these where they are: `stays` says so of each key and row.
-- The others were moved, so they are of version 2.
pub record BringsBy {N : Type 0} (view : View N) (stays : Key → ℕ → Bool) (old new : Device N) : Type 0 where
  pub one : BringsOne view old new
  pub stood : (key : Key) (row : ℕ) → HasOldAt (image_in view.flash one.brings.mid) key row → stays key row ≡ true
  pub kept : (key : Key) (row : ℕ) → HasOldAt (image_in view.flash old.engine) key row → stays key row ≡ true → HasOldAt (image_in view.flash one.brings.mid) key row

-- so many such calls, one after another, with what each call's room left: of the first one `stays 0` says it
abbrev pub BringsEachBy : {N : Type 0} → View N → (stays : ℕ → Key → ℕ → Bool) → ℕ → Device N → Device N → Type 0
BringsEachBy view stays zero old new = new ≡ old
BringsEachBy {N} view stays (suc count) old new =
    (mid : Device N) × BringsEachBy view stays count old mid × BringsBy view (stays count) mid new

-- THE NUMBER OF CALLS IS ONE, WHATEVER ROOM WAS MADE for each: of a die that has version 2, two ways to tell calls, from one device to one image, have as
-- many, if each call's room has left the same pages of version 1. So two calls are told as one only where a room is said to have moved a page of version 1
-- that it did not.
abbrev pub CountedByLaw : {N : Type 0} → View N → Type 0
CountedByLaw {N} view = (stays : ℕ → Key → ℕ → Bool) (count count' : ℕ) (old new new' : Device N) → version_for old.engine.geometry ≡ 2
    → image_in view.flash new'.engine ≡ image_in view.flash new.engine
    → BringsEachBy view stays count old new → BringsEachBy view stays count' old new' → count ≡ count'

-- ---- one call

-- A CALL THAT BROUGHT A PAGE PROGRAMS TWO PAGES AT MOST, whatever the die does, where nine blocks are free: and one more for each that fails
abbrev pub FewProgramsLaw : Type 0
FewProgramsLaw = (old new : Ram) → HasBrought old new → 9 ≤ free_count old.blocks → new.next + (counts_of new.blocks).good ≤ old.next + (counts_of old.blocks).good + 2

-- BY AN HONEST DIE it rescues one page, and renews the one that its look found
abbrev pub OneRenewedLaw : {N : Type 0} → View N → Type 0
OneRenewedLaw {N} view = (old new : Device N) (one : BringsOne view old new) → 9 ≤ free_count (ram old.engine).blocks
    → HasRescuedPage (ram old.engine) (ram new.engine)
    × IsRenewedPage one.row (ram old.engine) (image_in view.flash old.engine) (ram new.engine) (image_in view.flash new.engine)

-- THE LOG OF MAKING ROOM leads from the die before it to the die after it, and each program in it takes a sequence
abbrev pub RoomLogLaw : {N : Type 0} → View N → Type 0
RoomLogLaw {N} view = (old new : Engine N) (room : MadeRoom view old new) → Leads (view.flash old.nand) room.went.log (view.flash new.nand)
    × (new.next ≡ old.next + programs_in room.went.log)
