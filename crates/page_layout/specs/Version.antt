-- Which newest pages are of version 1, where the die has room for version 2.
use Rattle.std.specs.Prelude.{◌≡◌, ℕ, ◌==◌, Bool, false, count_by, slice_get, Option, Some, None}
use Rattle.page_layout.specs.declared.record.Key.{Key}
use Rattle.page_layout.specs.declared.geometry.Geometry.{Geometry}
use Rattle.page_layout.specs.Page.{Page, Image}
use Rattle.page_layout.specs.Sound.{version_of, version_for}
use Rattle.page_layout.specs.Newest.{newest}
use Rattle.page_layout.specs.Live.{keys}
use Rattle.page_layout.specs.Array.{marks}

-- the version of a page, if there is one and it is sound
abbrev pub version_in : Option Page → Option ℕ
version_in None = None
version_in (Some p) = version_of p

-- the version of a row's page, if it is sound
unfoldable pub version_at : Image → ℕ → Option ℕ
version_at image row = version_in (slice_get image row)

abbrev pub is_1 : Option ℕ → Bool
is_1 None = false
is_1 (Some version) = version == 1

-- whether the page of this row is of version 1, if there is a row
abbrev pub is_old_at : Image → Option ℕ → Bool
is_old_at image None = false
is_old_at image (Some row) = is_1 (version_at image row)

-- whether the newest page of a key is of version 1
unfoldable pub is_old : Image → Key → Bool
is_old image key = is_old_at image (newest (marks image) key)

-- how many keys have a newest page of version 1
unfoldable pub old_pages : Geometry → Image → ℕ
old_pages g image = count_by (is_old image) (keys g)

-- the newest page of the key is in this row, and of version 1
pub record HasOldAt (image : Image) (key : Key) (row : ℕ) : Type 0 where
  pub newest_is : newest (marks image) key ≡ Some row
  pub version : version_at image row ≡ Some 1

-- Where the die's pages are written in version 2: each newest page of version 1 was so before, in its row.
abbrev pub AddsNoOld : Geometry → Image → Image → Type 0
AddsNoOld g old new = version_for g ≡ 2 → (key : Key) (row : ℕ) → HasOldAt new key row → HasOldAt old key row
