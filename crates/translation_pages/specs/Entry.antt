-- What the newest translation pages of an image say of a sector.
use Rattle.std.specs.Prelude.{ℕ, ◌/◌, ◌%◌, Option, Some, None}
use Rattle.page_layout.specs.declared.geometry.Geometry.{Geometry}
use Rattle.page_layout.specs.declared.record.Key.TheVariants.{Translation}
use Rattle.page_layout.specs.Geometry.{entries}
use Rattle.page_layout.specs.Page.{Image, body_at}
use Rattle.page_layout.specs.Newest.{newest}
use Rattle.page_layout.specs.Array.{marks}
use Rattle.translation_pages.specs.TranslationPage.{entry_at}

-- entry i of the page at a place, or none where there is no page
abbrev pub entry_in : Image → ℕ → Option ℕ → Option ℕ
entry_in image i None = None
entry_in image i (Some row) = entry_at (body_at image row) i

-- the row that the newest translation page has for sector n, or none where that page was never written
unfoldable pub entry_of : Geometry → Image → ℕ → Option ℕ
entry_of g image n = entry_in image (n % entries g) (newest (marks image) (Translation (n / entries g)))
