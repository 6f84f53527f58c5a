-- A pass over the pages of an image, each handed over once in row order.
use Rattle.std.specs.Prelude.{◌≡◌, ◌⊎◌, ℕ, length}
use Rattle.page_layout.specs.declared.geometry.Geometry.{Geometry}
use Rattle.page_layout.specs.Page.{Image}
use Rattle.page_layout.specs.Array.{marks}
use Rattle.certificate.specs.Claim.{Claim}
use Rattle.image_check.specs.declared.pass.Begun.{Begun}
use Rattle.image_check.specs.declared.pass.Pass.{Pass}
use Rattle.image_check.specs.declared.refusal.Refusal.{Refusal}
use Rattle.image_check.specs.declared.refusal.Refusal.TheVariants as refusals
use Rattle.image_check.specs.Agrees.{IsAsked, IsCertificateOf}
use Rattle.image_check.specs.Noted.{HasNoted, HasSomeNoted}
use Rattle.image_check.specs.Room.{IsScratch}
use Rattle.image_check.specs.Survey.{HasPassed}
use Rattle.image_check.specs.Surveyed.{IsSized, IsSurvey}

-- its parts have the sizes of the geometry once so many pages have passed, whatever they were
pub record IsPass (rows : ℕ) (p : Pass) : Type 0 where
  pub asked : IsAsked p.survey.geometry p.certificate.now.capacity p.certificate.now
  pub certificate : IsCertificateOf p.survey.geometry p.certificate.now
  pub survey : IsSized p.survey.geometry rows p.survey
  pub passed : length p.passed.items ≡ p.survey.geometry.sectors
  pub most : p.noted.most ≡ p.certificate.now.capacity
  pub noted : HasSomeNoted p.survey.geometry p.certificate.now rows p.noted
  pub scratch : IsScratch p.survey.geometry p.scratch

-- it has what the first rows of the image show, by the certificate
pub record Shows (image : Image) (rows : ℕ) (p : Pass) : Type 0 where
  pub survey : IsSurvey p.survey.geometry image rows p.survey
  pub claims : HasPassed (marks image) rows p.certificate.now.sectors p.passed.items
  pub noted : HasNoted p.survey.geometry image p.certificate.now rows p.noted

-- it is of the same certificate and geometry
pub record IsSamePass (p q : Pass) : Type 0 where
  pub geometry : q.survey.geometry ≡ p.survey.geometry
  pub certificate : q.certificate.now ≡ p.certificate.now

-- a pass of this certificate that no page has passed yet, and as many bytes as one page has
pub record IsBegun (g : Geometry) (c : Claim) (b : Begun) : Type 0 where
  pub pass : IsPass 0 b.pass
  pub shows : (image : Image) → Shows image 0 b.pass
  pub geometry : b.pass.survey.geometry ≡ g
  pub claim : b.pass.certificate.now ≡ c
  pub body : length b.body.items ≡ g.data_bytes
  pub spare : length b.spare.items ≡ g.spare_bytes

-- why no pass begins: the certificate isn't the one that was asked for, or it is and a growth was refused
abbrev pub IsUnbegun : Geometry → ℕ → Claim → Refusal → Type 0
IsUnbegun g capacity c r = ((r ≡ refusals.GeometryDiffers) × (¬ IsAsked g capacity c)) ⊎ ((r ≡ refusals.OutOfMemory) × IsAsked g capacity c)
