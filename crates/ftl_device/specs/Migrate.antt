-- What a call of `migrate_one` does to the pages of version 1.
use Rattle.std.specs.Prelude.{◌≡◌, ◌⊎◌, ℕ, ◌+◌, ◌<◌, ◌≤◌, Bool, true, false, Option, None, Some, Result, Ok, Err}
use Rattle.std.specs.Option.{ForSome}
use Rattle.page_layout.specs.declared.geometry.Geometry.{Geometry}
use Rattle.page_layout.specs.Page.{Image}
use Rattle.page_layout.specs.Sound.{version_for}
use Rattle.page_layout.specs.Version.{old_pages, AddsNoOld}
use Rattle.collection.specs.Renew.{HasNoneDue, HasDue, FindsDue, IsNextDue}
use Rattle.ftl_device.specs.declared.fault.DeviceFault.{DeviceFault}
use Rattle.ftl_device.specs.Renewed.{HasOldTablesOnly}

-- how the call ended, whatever it found
abbrev pub ended : Result Bool DeviceFault → Result (Unit {0}) DeviceFault
ended (Ok found) = Ok tt
ended (Err fault) = Err fault

-- a row's page was renewed: no newest page of version 1 is added, and none but a table page is in the row
pub record Renews (row : ℕ) (g : Geometry) (before after : Image) : Type 0 where
  pub adds : AddsNoOld g before after
  pub none : version_for g ≡ 2 → HasNoneDue row after

-- No newest page is of version 1, but table pages. With `true` there was one, and fewer newest pages are of version 1 than before.
abbrev pub Migrates : Bool → Geometry → Image → Image → Type 0
Migrates false g before after = HasOldTablesOnly after
Migrates true g before after = version_for g ≡ 2 → old_pages g after < old_pages g before

-- ---- where it goes on

-- no row from the cursor on has a page that has to be renewed, and this is the first row of all that has one
pub record IsDueBehindCursor (cursor row : ℕ) (image : Image) : Type 0 where
  pub ahead : FindsDue cursor image None
  pub first : IsNextDue 0 row image

-- what a look finds that goes from the cursor to the last row and, where no page is due there, over all rows
abbrev pub FindsFrom : ℕ → Image → Option ℕ → Type 0
FindsFrom cursor image None = FindsDue 0 image None
FindsFrom cursor image (Some row) = IsNextDue cursor row image ⊎ IsDueBehindCursor cursor row image

-- the cursor went to the row after the one that was found
pub record HasMovedOn (cursor : ℕ) (image : Image) (after : ℕ) : Type 0 where
  pub row : ℕ
  pub found : FindsFrom cursor image (Some row)
  pub after_is : after ≡ row + 1

-- A LOOK HAS ONE ANSWER: what it finds is said of one row alone, or of none
abbrev pub OneFoundLaw : Type 0
OneFoundLaw = (cursor : ℕ) (image : Image) (found other : Option ℕ) → FindsFrom cursor image found → FindsFrom cursor image other → found ≡ other

-- A LOOK GOES ON: while a page is due in a row from the cursor on, the row that is found is one of these, and so the cursor moves on
abbrev pub GoesOnLaw : Type 0
GoesOnLaw = (cursor row : ℕ) (image : Image) → cursor ≤ row → HasDue row image → (found : Option ℕ) → FindsFrom cursor image found → ForSome found (λ next. (cursor ≤ next) × (next ≤ row))
