-- What all pages of an image show together.
use Rattle.std.specs.Prelude.{◌≡◌, ℕ, ◌+◌, ◌<◌, All, List, length, get_or, slice_get, Some}
use Rattle.page_layout.specs.declared.geometry.Geometry.{Geometry}
use Rattle.page_layout.specs.Geometry.{row_count, key_count}
use Rattle.page_layout.specs.Page.{Image}
use Rattle.page_layout.specs.Array.{marks}
use Rattle.page_layout.specs.Word.{word_of_row}
use Rattle.certificate.specs.Claim.{Claim}
use Rattle.certificate.specs.Spelling.{FitsBlock, IsRowOf}
use Rattle.image_check.specs.Blocks.{AreStates}
use Rattle.image_check.specs.Refused.{HoldBetween}
use Rattle.image_check.specs.declared.newest.Newest.{Newest}
use Rattle.image_check.specs.Newest.{place_in, no_newest}
use Rattle.image_check.specs.Surveyed.{SurveysKeys}
use Rattle.mount.specs.declared.mount_pages.Shown.{Shown}
use Rattle.mount.specs.Mounted.{IsNextSequence}

-- its parts have the sizes of the geometry and fit a certificate, whatever the pages were
pub record IsShownSized (g : Geometry) (shown : Shown) : Type 0 where
  pub newest : length shown.newest.items ≡ key_count g
  pub within : All (λ x. IsRowOf (row_count g) (place_in x)) shown.newest.items
  pub blocks : length shown.blocks.items ≡ g.blocks
  pub fits : All FitsBlock shown.blocks.items

-- it is what the image shows, and the image has what no certificate decides
pub record IsShown (g : Geometry) (image : Image) (shown : Shown) : Type 0 where
  pub orderly : (capacity : ℕ) (claim : Claim) → HoldBetween g capacity image claim 1 4
  pub keys : SurveysKeys g image shown.newest.items
  pub states : AreStates g image shown.blocks.items
  pub next : IsNextSequence (marks image) shown.next

-- the words of n keys' newest rows, from the first of these keys on
pub record HasWords (newest : List Newest) (first n : ℕ) (words : List ℕ) : Type 0 where
  pub size : length words ≡ n
  pub word : (i : ℕ) → i < n → slice_get words i ≡ Some (word_of_row (place_in (get_or newest (first + i) no_newest)))
