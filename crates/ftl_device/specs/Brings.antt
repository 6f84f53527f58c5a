-- What is done once room was made: a page is brought forward, or a turn rescues one.
use Rattle.std.specs.Prelude.{◌≡◌, ◌⊎◌, ℕ, zero, suc, ◌+◌, ◌≤◌, Bool, false, Some, Ok}
use Rattle.page_layout.specs.View.{View}
use Rattle.page_layout.specs.Sound.{version_for}
use Rattle.allocation.specs.State.{free_count}
use Rattle.collection.specs.declared.engine.Engine.{Engine}
use Rattle.collection.specs.State.{Ram}
use Rattle.collection.specs.Safe.{ram, image_in}
use Rattle.collection.specs.Log.{Went}
use Rattle.collection.specs.Results.{Goes}
use Rattle.collection.specs.Collect.{KeepsKeys, HasAiling, HasNoneAiling, HasRescuedPage, RescueCosts, IsRearranged, LeavesLowest}
use Rattle.collection.specs.Renew.{IsRenewedAt}
use Rattle.ftl_device.specs.declared.device.Device.{Device}
use Rattle.ftl_device.specs.Calls.{HasMadeRoom, HasRescued, HasWorked, HasFallen, IsQuiet}
use Rattle.ftl_device.specs.Migrate.{FindsFrom}

-- ROOM WAS MADE as outside a flush, by an honest die: what memory says of it, where newest pages are then, and its log. With nine blocks free nothing
-- was done for it.
pub record MadeRoom {N : Type 0} (view : View N) (old new : Engine N) : Type 0 where
  pub made : HasMadeRoom 9 false (ram old) (ram new)
  pub rests : 9 ≤ free_count (ram old).blocks → (ram new ≡ ram old) × (view.flash new.nand ≡ view.flash old.nand)
  pub rearranged : IsRearranged (ram old) (image_in view.flash old) (ram new) (image_in view.flash new)
  pub went : Went (ram old) (view.flash old.nand) (view.recorded old.nand) (ram new) (view.flash new.nand) (view.recorded new.nand)

-- ---- a turn

-- WHERE THE DIE IS HONEST: while a bad block holds a newest page once there is room, a turn rescues one page, that of lowest row in such a block
pub record RescuesLowest {N : Type 0} (view : View N) (old new : Engine N) : Type 0 where
  pub mid : Engine N
  pub room : MadeRoom view old mid
  pub lowest : HasAiling (ram mid).blocks → HasRescuedPage (ram mid) (ram new) × LeavesLowest (ram mid) (image_in view.flash mid) (image_in view.flash new)

-- ALL THAT A TURN DOES at an honest die, where it is done
pub record TurnsHonestly {N : Type 0} (view : View N) (old new : Engine N) : Type 0 where
  pub quiet : IsQuiet view.erases old new
  pub falls : HasNoneAiling (ram old).blocks → HasFallen view old new
  pub rescued : HasRescued (ram old) (ram new)
  pub lowest : RescuesLowest view old new
  pub worked : HasAiling (ram old).blocks → HasWorked (ram old) (ram new) (view.erases old.nand) (view.erases new.nand)

-- ---- a page of version 1

-- WHATEVER THE DIE DOES, a call of `migrate_one` that answers `true` makes room, and then rescues one page, or none, where the page that it found
-- had not to be copied any more
pub record HasBrought (old new : Ram) : Type 0 where
  pub mid : Ram
  pub room : HasMadeRoom 9 false old mid
  pub on : (new ≡ mid) ⊎ HasRescuedPage mid new

-- WHERE IT IS HONEST: once there is room, the page in the row is renewed, where it has to be. No newest page is touched then but that one and the
-- page that follows its copy.
pub record BringsPage {N : Type 0} (view : View N) (row : ℕ) (old new : Engine N) : Type 0 where
  pub mid : Engine N
  pub room : MadeRoom view old mid
  pub goes : Goes (ram mid) (ram new)
  pub keys : KeepsKeys mid.mapping new.mapping
  pub renewed : Bool
  pub cost : RescueCosts (ram mid) (ram new) (Ok renewed)
  pub renews : IsRenewedAt row (ram mid) (image_in view.flash mid) (ram new) (image_in view.flash new) renewed

-- of a device: the row is the one that its look finds, and the cursor goes to the row after it
pub record BringsOne {N : Type 0} (view : View N) (old new : Device N) : Type 0 where
  pub row : ℕ
  pub found : FindsFrom old.cursor (image_in view.flash old.engine) (Some row)
  pub brings : BringsPage view row old.engine new.engine
  pub cursor_is : new.cursor ≡ row + 1

-- so many such calls, one after another, each begun with nine free blocks
abbrev pub BringsEach : {N : Type 0} → View N → ℕ → Device N → Device N → Type 0
BringsEach view zero old new = new ≡ old
BringsEach {N} view (suc count) old new =
    (mid : Device N) × BringsEach view count old mid × (9 ≤ free_count (ram mid.engine).blocks) × BringsOne view mid new

-- ---- laws

-- A TURN RESCUES THE PAGE OF LOWEST ROW, where a bad block holds a newest page and nine blocks are free as it begins
abbrev pub LowestRowLaw : {N : Type 0} → View N → Type 0
LowestRowLaw {N} view = (old new : Engine N) → RescuesLowest view old new → 9 ≤ free_count (ram old).blocks → HasAiling (ram old).blocks
    → HasRescuedPage (ram old) (ram new) × LeavesLowest (ram old) (image_in view.flash old) (image_in view.flash new)

-- THE NUMBER OF CALLS that brought a page forward is told by the images, where nine blocks are free as each begins and the die has version 2: two
-- ways to tell it, from one device to one image, have as many
abbrev pub CountedLaw : {N : Type 0} → View N → Type 0
CountedLaw {N} view = (count count' : ℕ) (old new new' : Device N) → version_for old.engine.geometry ≡ 2 → image_in view.flash new'.engine ≡ image_in view.flash new.engine
    → BringsEach view count old new → BringsEach view count' old new' → count ≡ count'
