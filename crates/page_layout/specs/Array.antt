-- The array of sectors that an image holds: `ReadsAs` says what one sector reads as, `sector_of` and `array_of` compute it.
use Rattle.std.specs.Prelude.{◌≡◌, ◌≢◌, ℕ, ◌<◌, List, [], length, map, replicate, get_or, slice_get, Option, Some, None}
use Rattle.std.specs.List.{range_with_len}
use Rattle.page_layout.specs.declared.record.Record.{Record}
use Rattle.page_layout.specs.declared.record.Kind.{Kind}
use Rattle.page_layout.specs.declared.record.Kind.TheVariants as kind
use Rattle.page_layout.specs.declared.record.Key.TheVariants.{Sector}
use Rattle.page_layout.specs.declared.geometry.Geometry.{Geometry}
use Rattle.page_layout.specs.Page.{Page, Image, body_at}
use Rattle.page_layout.specs.Sound.{record_of}
use Rattle.page_layout.specs.Key.{key_of}
use Rattle.page_layout.specs.Newest.{newest, IsNewest}
use Rattle.page_layout.specs.OneArray.{AreDistinct}
use Rattle.page_layout.specs.Live.{IsKeyOf}

-- the record of each page in row order, or none where the page is not sound
unfoldable pub marks : Image → List (Option Record)
marks image = map record_of image

-- what an unwritten sector reads as
abbrev pub zeros : Geometry → List ℕ
zeros g = replicate g.data_bytes 0

-- what a sector reads as whose newest page is of this kind and has these bytes as its data area
abbrev pub content_of_kind : Geometry → Kind → List ℕ → List ℕ
content_of_kind g kind.Sector bytes = bytes
content_of_kind g kind.Trim bytes = zeros g
content_of_kind g kind.Translation bytes = zeros g
content_of_kind g kind.Table bytes = zeros g

-- the same by the record of that page
abbrev pub content_of_record : Geometry → Option Record → List ℕ → List ℕ
content_of_record g None bytes = zeros g
content_of_record g (Some r) bytes = content_of_kind g r.kind bytes

-- the same by that page, if there is one
unfoldable pub content : Geometry → Option Page → List ℕ
content g None = zeros g
content g (Some p) = content_of_record g (record_of p) p.body

-- the same by its row, if there is one
abbrev pub content_at : Geometry → Image → Option ℕ → List ℕ
content_at g image None = zeros g
content_at g image (Some row) = content g (slice_get image row)

-- sector n: the data area of its newest page where that is of kind Sector, else zeros
unfoldable pub sector_of : Geometry → Image → ℕ → List ℕ
sector_of g image n = content_at g image (newest (marks image) (Sector n))

-- the sectors in order
unfoldable pub array_of : Geometry → Image → List (List ℕ)
array_of g image = map (sector_of g image) (range_with_len 0 g.sectors)

-- Sector n reads as these bytes: the data area of the newest page of its key where that is of kind Sector, else zeros, that is where the
-- newest page is a trim or there is none.
pub record ReadsAs (g : Geometry) (image : Image) (n : ℕ) (bytes : List ℕ) : Type 0 where
  pub written : (row : ℕ) (r : Record) → IsNewest (marks image) (Sector n) row → get_or (marks image) row None ≡ Some r → r.kind ≡ kind.Sector → bytes ≡ body_at image row
  pub unwritten : ((row : ℕ) (r : Record) → IsNewest (marks image) (Sector n) row → get_or (marks image) row None ≡ Some r → r.kind ≢ kind.Sector) → bytes ≡ zeros g

-- these are the sectors that the image holds, in order
pub record IsArray (g : Geometry) (image : Image) (sectors : List (List ℕ)) : Type 0 where
  pub size : length sectors ≡ g.sectors
  pub each : (n : ℕ) → n < g.sectors → ReadsAs g image n (get_or sectors n [])

-- The image holds one array without doubt: no two sound pages share a sequence, and every sound page's number is below the number of sectors,
-- of translation pages or of table pages, as its kind says.
pub record HasOneArray (g : Geometry) (image : Image) : Type 0 where
  pub distinct : AreDistinct (marks image)
  pub in_range : (row : ℕ) (r : Record) → get_or (marks image) row None ≡ Some r → IsKeyOf g (key_of r)
