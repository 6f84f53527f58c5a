-- Where newest pages are, in an image and in the directory.
use Rattle.std.specs.Prelude.{ℕ, ◌+◌, Option, Some, None}
use Rattle.page_layout.specs.declared.geometry.Geometry.{Geometry}
use Rattle.page_layout.specs.declared.record.Key.{Key}
use Rattle.page_layout.specs.declared.record.Key.TheVariants.{Sector, Translation, Table}
use Rattle.page_layout.specs.Page.{Image}
use Rattle.page_layout.specs.Geometry.{translation_pages}
use Rattle.page_layout.specs.Newest.{newest}
use Rattle.page_layout.specs.Array.{marks}

-- the row of the newest page of a key
abbrev pub newest_row : Image → Key → Option ℕ
newest_row image key = newest (marks image) key

-- where the directory has a key's row; a sector has no place there
abbrev pub directory_place : Geometry → Key → Option ℕ
directory_place g (Sector n) = None
directory_place g (Translation t) = Some t
directory_place g (Table u) = Some (translation_pages g + u)
