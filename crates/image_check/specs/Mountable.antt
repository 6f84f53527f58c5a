-- Which images have a certificate.
use Rattle.std.specs.Prelude.{◌↔◌, ◌≡◌, length, ℕ, ◌-◌, ◌^◌, ◌≤◌}
use Rattle.page_layout.specs.declared.geometry.Geometry.{Geometry}
use Rattle.page_layout.specs.Page.{Image}
use Rattle.page_layout.specs.OneArray.{AreDistinct, AreBelow}
use Rattle.page_layout.specs.Array.{marks}
use Rattle.page_layout.specs.Geometry.{row_count}
use Rattle.certificate.specs.Claim.{Claim}
use Rattle.certificate.specs.Spelling.{Fits}
use Rattle.image_check.specs.Stale.{stale_count}
use Rattle.image_check.specs.Agrees.{Agrees, AreInRange, HasTables}

-- some certificate agrees, and its numbers fit their fields
pub record IsMountable (g : Geometry) (capacity : ℕ) (image : Image) : Type 0 where
  pub certificate : Claim
  pub agrees : Agrees g capacity image certificate
  pub fits : Fits certificate

-- the same in terms of the image alone: all that a certificate says else of an image follows from it
pub record IsOrderly (g : Geometry) (capacity : ℕ) (image : Image) : Type 0 where
  pub numbers : AreInRange g (marks image)
  pub sequences : AreDistinct (marks image)
  pub tables : HasTables g image
  pub last : AreBelow (marks image) (2 ^ 64 - 1)
  pub fresh : stale_count g image ≤ capacity

-- for a capacity from 1 to 65536 and an image with a page for each row of the geometry
abbrev pub MountableLaw : Type 0
MountableLaw = (g : Geometry) (capacity : ℕ) (image : Image) → length image ≡ row_count g → 1 ≤ capacity → capacity ≤ 65536 → IsMountable g capacity image ↔ IsOrderly g capacity image
