-- What the checker hands out.
use Rattle.std.specs.Prelude.{◌≡◌, ℕ, List}
use Rattle.page_layout.specs.declared.geometry.Geometry.{Geometry}
use Rattle.page_layout.specs.Page.{Image}
use Rattle.certificate.specs.Claim.{Claim}
use Rattle.image_check.specs.Stale.{stale_sectors}
use Rattle.image_check.specs.Agrees.{Agrees}

-- a certificate and the sectors that were found stale
pub record Acceptance : Type 0 where
  pub claim : Claim
  pub stale : List ℕ

-- the certificate agrees with the image, and these are the stale sectors
pub record IsAcceptance (g : Geometry) (capacity : ℕ) (image : Image) (c : Claim) (a : Acceptance) : Type 0 where
  pub claim_is : a.claim ≡ c
  pub agrees : Agrees g capacity image c
  pub stale_is : a.stale ≡ stale_sectors g image
