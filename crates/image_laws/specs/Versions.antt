-- Which versions the newest pages of an image have.
use Rattle.std.specs.Prelude.{◌≡◌, ◌≢◌, ℕ, Some}
use Rattle.page_layout.specs.declared.record.Key.{Key}
use Rattle.page_layout.specs.declared.geometry.Geometry.{Geometry}
use Rattle.page_layout.specs.Page.{Image}
use Rattle.page_layout.specs.Sound.{version_for}
use Rattle.page_layout.specs.Newest.{newest}
use Rattle.page_layout.specs.Array.{marks}
use Rattle.page_layout.specs.Version.{version_at, AddsNoOld}

-- WHERE NO NEWEST PAGE OF VERSION 1 IS ADDED, one that stands in another row than before is of version 2: so no copy keeps version 1
abbrev pub MovedVersionLaw : Type 0
MovedVersionLaw = (g : Geometry) (old new : Image) (key : Key) (row : ℕ) → version_for g ≡ 2 → AddsNoOld g old new
    → newest (marks new) key ≡ Some row → newest (marks old) key ≢ Some row → version_at new row ≡ Some 2

-- and one that stays in its row is of version 1 only where it was so before
abbrev pub StayedVersionLaw : Type 0
StayedVersionLaw = (g : Geometry) (old new : Image) (key : Key) (row : ℕ) → version_for g ≡ 2 → AddsNoOld g old new
    → newest (marks new) key ≡ Some row → version_at old row ≢ Some 1 → version_at new row ≡ Some 2
