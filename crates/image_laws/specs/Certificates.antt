-- Which certificate an image has.
use Rattle.std.specs.Prelude.{◌≡◌, ℕ, List, Option, length}
use Rattle.page_layout.specs.declared.geometry.Geometry.{Geometry}
use Rattle.page_layout.specs.declared.record.Record.{Record}
use Rattle.page_layout.specs.Page.{Image}
use Rattle.certificate.specs.declared.fault.CertFault.TheVariants.{OutOfMemory}
use Rattle.certificate.specs.Claim.{Claim}
use Rattle.certificate.specs.Spelling.{layout}
use Rattle.certificate.specs.Reading.{sizes_in}
use Rattle.certificate.specs.Faults.{IsFirstCertificateFault}
use Rattle.image_check.specs.Agrees.{Agrees, IsCertificateOf}
use Rattle.mount.specs.Mounted.{IsNextSequence, IsMounted}

-- ONE NEXT SEQUENCE: what comes after all sequences of an image is one number
abbrev pub OneNextLaw : Type 0
OneNextLaw = (marks : List (Option Record)) (a b : ℕ) → IsNextSequence marks a → IsNextSequence marks b → a ≡ b

-- ONE CERTIFICATE: two that agree with an image, and have as many states and rows as its die, are one, but for the next sequence
abbrev pub OneCertificateLaw : Type 0
OneCertificateLaw = (g : Geometry) (capacity : ℕ) (image : Image) (c d : Claim) → IsCertificateOf g c → IsCertificateOf g d → Agrees g capacity image c
    → Agrees g capacity image d → c.next ≡ d.next → c ≡ d

-- ONE MOUNT: and what mounting gives is one certificate
abbrev pub OneMountLaw : Type 0
OneMountLaw = (g : Geometry) (capacity : ℕ) (image : Image) (c d : Claim) → IsCertificateOf g c → IsCertificateOf g d → IsMounted g capacity image c
    → IsMounted g capacity image d → c ≡ d

-- MEMORY IS ASKED FOR only for bytes that are as many as their head promises
abbrev pub WholeFirstLaw : Type 0
WholeFirstLaw = (bytes : List ℕ) → IsFirstCertificateFault bytes OutOfMemory → length bytes ≡ layout (sizes_in bytes)
