-- What was written in the end.
use Rattle.std.specs.Prelude.{◌≡◌, ◌≢◌, ◌↔◌, ℕ, ◌<◌, Bool, true, false, List, length, get_or, map, Option, IfSome}
use Rattle.std.specs.List.{range_with_len}
use Rattle.page_layout.specs.declared.geometry.Geometry.{Geometry}
use Rattle.page_layout.specs.declared.record.Key.TheVariants.{Sector}
use Rattle.page_layout.specs.Page.{Image}
use Rattle.page_layout.specs.Raw.{raw_image}
use Rattle.page_layout.specs.Newest.{latest_below}
use Rattle.page_layout.specs.Array.{marks}
use Rattle.image_check.specs.Sector.{IsAmbiguous}
use Rattle.lab_dump.specs.Scan.{image_bytes}
use Rattle.lab_dump.specs.declared.held.Held.{Held}
use Rattle.lab_dump.specs.declared.held.SectorShown.{SectorShown}
use Rattle.lab_dump.specs.declared.held.SectorShown.TheVariants as shown
use Rattle.lab_dump.specs.declared.held.Held.TheVariants.{Never}
use Rattle.lab_dump.specs.Held.{TellsHeld, TellsSound, shown_by, shown_in, shown_with}
use Rattle.lab_dump.specs.declared.doubts.Unsettled.{Unsettled}
use Rattle.lab_dump.specs.Doubts.{doubts_of, legible_of}
use Rattle.lab_dump.specs.Said.{said_of}
use Rattle.lab_dump.specs.Until.{until}
use Rattle.lab_dump.specs.Damaged.{IsSaidNewer, array_with, row_said_newer, said_marks}

-- how sector n stands: with no sound page, with a newest one, or with two that share its greatest sequence
unfoldable pub sector_state : Image → ℕ → SectorShown
sector_state image n = shown_by (latest_below (marks image) (Sector n) (length image))

-- how each sector stands, in order
unfoldable pub states_of : Geometry → Image → List SectorShown
states_of g image = map (sector_state image) (range_with_len 0 g.sectors)

-- the same with pages shown that are not sound
-- Law: a sector is shown so just where such a page is newer than each sound one (`MarkedLaw`).
unfoldable pub damaged_state : Geometry → Option ℕ → Image → ℕ → SectorShown
damaged_state g last image n =
    shown_with (row_said_newer (latest_below (marks (until g last image)) (Sector n) (length image)) (latest_below (said_marks g last image) (Sector n) (length image))) (latest_below (marks (until g last image)) (Sector n) (length image))

unfoldable pub damaged_states : Geometry → Option ℕ → Image → List SectorShown
damaged_states g last image = map (damaged_state g last image) (range_with_len 0 g.sectors)

-- how each sector is shown, with such pages or without
abbrev pub states_with : Geometry → Option ℕ → (damaged : Bool) → Image → List SectorShown
states_with g last true image = damaged_states g last image
states_with g last false image = states_of g (until g last image)

-- What is held of sector n says how it is shown, with such pages or without, and the sequence of the page that it is shown from; of a tied one that which its pages share.
abbrev pub TellsSector : Geometry → Option ℕ → (damaged : Bool) → Image → ℕ → Held → Type 0
TellsSector g last true image n h = TellsHeld h (latest_below (marks (until g last image)) (Sector n) (length image)) (latest_below (said_marks g last image) (Sector n) (length image))
TellsSector g last false image n h = TellsSound h (latest_below (marks (until g last image)) (Sector n) (length image))

-- what pages say and the doubts are those of the image
pub record IsLeftUnsettled (g : Geometry) (image : Image) (left : Unsettled) : Type 0 where
  pub said_is : left.said.items ≡ said_of g image
  pub legible_is : left.legible ≡ legible_of g image
  pub doubts_is : left.doubts ≡ doubts_of g image

-- The bytes are as many as an image has, the pieces are the array of the image that they are, as of a sequence where one is said, with pages shown that are not sound where
-- that is asked for, what is held says how each sector is shown then and by which sequence, and what is left open is that of the image.
pub record IsArrayWritten (g : Geometry) (last : Option ℕ) (damaged : Bool) (pieces : Option (List (List ℕ))) (held : List Held) (left : Unsettled) (bytes : List ℕ) : Type 0 where
  pub whole : length bytes ≡ image_bytes g
  pub array : IfSome pieces (λ ps. ps ≡ array_with g last damaged (raw_image g bytes))
  pub states : map shown_in held ≡ states_with g last damaged (raw_image g bytes)
  pub tells : (n : ℕ) → n < g.sectors → TellsSector g last damaged (raw_image g bytes) n (get_or held n Never)
  pub left_is : IsLeftUnsettled g (raw_image g bytes) left

-- a sector is tied just where two of its pages share its greatest sequence
abbrev pub TiedLaw : Type 0
TiedLaw = (g : Geometry) (image : Image) (n : ℕ) → n < g.sectors → (sector_state image n ≡ shown.Tied) ↔ IsAmbiguous g image n

-- With pages shown that are not sound, a sector is marked so just where such a page says something newer than each sound page of it; else it stands as
-- without them.
abbrev pub MarkedLaw : Type 0
MarkedLaw = (g : Geometry) (last : Option ℕ) (image : Image) (n : ℕ)
    → ((damaged_state g last image n ≡ shown.Damaged) ↔ ((row : ℕ) × IsSaidNewer g last image n row))
    × (((row : ℕ) → ¬ IsSaidNewer g last image n row) → damaged_state g last image n ≡ sector_state (until g last image) n)

-- Without them none is marked so.
abbrev pub UnmarkedLaw : Type 0
UnmarkedLaw = (image : Image) (n : ℕ) → sector_state image n ≢ shown.Damaged
