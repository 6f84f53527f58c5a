-- What the command `compare` comes to.
use Rattle.std.specs.Prelude.{◌≡◌, ◌≢◌, ◌⊎◌, ℕ, suc, ◌^◌, List, take, Option, option_map, IfSome, Bool}
use Rattle.std.specs.Io.KnownBytes.{Appends}
use Rattle.page_layout.specs.declared.geometry.Geometry.{Geometry}
use Rattle.certificate.specs.Claim.{Claim, sizes_of}
use Rattle.certificate.specs.Faults.{IsFirstCertificateFault}
use Rattle.certificate.specs.Spelling.{Fits, certificate_bytes}
use Rattle.lab_dump.specs.declared.compare.Compared.{Compared}
use Rattle.lab_dump.specs.Compared.{IsComparedTo}
use Rattle.lab_commands.specs.Reports.{compare_text}
use Rattle.lab_commands.specs.declared.words.CompareWords.{CompareWords}
use Rattle.lab_commands.specs.declared.text.LabFault.{LabFault}
use Rattle.lab_commands.specs.declared.text.LabFault.TheVariants as fault
use Rattle.lab_commands.specs.Files.{IsFileOpened, Store, StoreAnswers}
use Rattle.lab_commands.specs.Undone.{IsGeometryAt, IsHalfPrinted, IsNoGeometry, IsUnread, IsUnroomed, IsDumpUntaken, LeavesAll, OpensForReading, form_of_showing}

-- ---- the certificate

-- so many bytes of a certificate's file are looked at: no certificate has as many
abbrev pub most_bytes : ℕ
most_bytes = 2 ^ 26

abbrev pub looked_at : List ℕ → List ℕ
looked_at bytes = take most_bytes bytes

-- the file's bytes, as far as they are known, spell this claim
pub record IsCertificateAt (a : StoreAnswers) (path : List ℕ) (c : Claim) : Type 0 where
  pub known : Option (List ℕ)
  pub opened : IsFileOpened a path known
  pub fits : Fits c
  pub spelled : IfSome known (λ bytes. certificate_bytes c ≡ looked_at bytes)

-- this is the first fault of a certificate's bytes
abbrev pub IsBroken : List ℕ → LabFault → Type 0
IsBroken bytes (fault.Certificate broken) = IsFirstCertificateFault (looked_at bytes) broken
IsBroken bytes _ = ⊥

-- the file was opened, and its bytes, as far as they are known, have this fault
pub record OpensBroken (a : StoreAnswers) (path : List ℕ) (told : LabFault) : Type 0 where
  pub known : Option (List ℕ)
  pub opened : IsFileOpened a path known
  pub broken : IfSome known (λ bytes. IsBroken bytes told)

-- Why there is no certificate: its file was not read, or its bytes are none.
abbrev pub IsNoCertificateAt : StoreAnswers → List ℕ → LabFault → Type 0
IsNoCertificateAt a path (fault.Certificate broken) = OpensBroken a path (fault.Certificate broken)
IsNoCertificateAt a path told = IsUnread a path told

-- ---- done

-- what the dump comes to beside this claim: where its bytes are known that is of the image that they are
pub record IsCompared (a : StoreAnswers) (path : List ℕ) (g : Geometry) (c : Claim) (told : Compared) : Type 0 where
  pub known : Option (List ℕ)
  pub opened : IsFileOpened a path known
  pub compared : IfSome known (IsComparedTo g c told)

-- the words name a geometry and a certificate of it, and this is what the dump comes to
pub record HasCompared (a : StoreAnswers) (words : CompareWords) (g : Geometry) (told : Compared) : Type 0 where
  pub claim : Claim
  pub geometry_is : IsGeometryAt words.geometry.now g
  pub certificate : IsCertificateAt a words.certificate.now claim
  pub sizes : claim.sizes ≡ sizes_of g
  pub compared : IsCompared a words.dump.now g claim told

-- and that was printed
pub record ToldCompared (a : StoreAnswers) (words : CompareWords) (out printed : Option (List ℕ)) : Type 0 where
  pub g : Geometry
  pub compared : Compared
  pub has : HasCompared a words g compared
  pub told : Appends out printed (compare_text (form_of_showing words.showing) g compared)

-- ---- not done

-- the certificate is of another geometry
abbrev pub IsOfOtherGeometry : Claim → Geometry → LabFault → Type 0
IsOfOtherGeometry c g fault.GeometryDiffers = c.sizes ≢ sizes_of g
IsOfOtherGeometry c g _ = ⊥

-- why a dump was not held beside this claim
abbrev pub IsDumpUnheld : StoreAnswers → Geometry → Claim → List ℕ → LabFault → Type 0
IsDumpUnheld a g c path told = IsUnread a path told ⊎ IsDumpUntaken a g path told ⊎ (OpensForReading a path × IsOfOtherGeometry c g told)

-- The first of this order: the geometry; memory; the certificate, before another file is opened; the dump.
abbrev pub IsUncomparedBy : StoreAnswers → CompareWords → (opens opened : Option ℕ) → LabFault → Type 0
IsUncomparedBy a words opens opened told =
    IsNoGeometry words.geometry.now told
    ⊎ ((g : Geometry) × IsGeometryAt words.geometry.now g × (IsUnroomed opens opened told ⊎ (IsNoCertificateAt a words.certificate.now told × (opened ≡ option_map suc opens))
    ⊎ ((c : Claim) × IsCertificateAt a words.certificate.now c × IsDumpUnheld a g c words.dump.now told)))

-- nothing was printed, for one of these reasons, or a beginning of what the dump comes to was
abbrev pub IsCompareFault : StoreAnswers → CompareWords → Option Store → Option Store → (opens opened : Option ℕ) → (broke : Bool) → Option (List ℕ) → Option (List ℕ) → LabFault → Type 0
IsCompareFault a words before after opens opened broke out printed told =
    (LeavesAll before after out printed × IsUncomparedBy a words opens opened told)
    ⊎ ((after ≡ before) × ((g : Geometry) × (compared : Compared) × HasCompared a words g compared × IsHalfPrinted broke out printed (compare_text (form_of_showing words.showing) g compared) told))
