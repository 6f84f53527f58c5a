-- The command `check`: what its words, its files and the checker come to.
use Rattle.std.specs.Prelude.{◌≡◌, ◌≢◌, ◌⊎◌, ◌<◌, ◌≤◌, ◌*◌, ℕ, Bool, List, [], ◌∷◌, ◌++◌, length, codes, Option, None, Some, IfSome, Result, Ok, Err}
use Rattle.std.specs.Io.KnownBytes.{Appends, Keeps}
use Rattle.page_layout.specs.declared.geometry.Geometry.{Geometry}
use Rattle.page_layout.specs.Geometry.{row_count, page_bytes}
use Rattle.page_layout.specs.Faults.{HasNumbers, IsFirstFault}
use Rattle.page_layout.specs.Raw.{raw_image}
use Rattle.certificate.specs.Claim.{Claim}
use Rattle.certificate.specs.Spelling.{Fits, certificate_bytes}
use Rattle.certificate.specs.Faults as certificate
use Rattle.image_check.specs.Agrees.{Agrees, IsAsked}
use Rattle.image_check.specs.Refused.{IsFirstWrong}
use Rattle.image_check.specs.declared.refusal.Refusal.{Refusal}
use Rattle.image_check.specs.declared.refusal.Refusal.TheVariants as refusals
use Rattle.program_words.specs.declared.numbers.GeometryNumbers.{GeometryNumbers}
use Rattle.commands.specs.declared.text.CommandFault.{CommandFault}
use Rattle.commands.specs.declared.text.CommandFault.TheVariants as fault
use Rattle.command_words.specs.declared.words.CertificateWords.{CertificateWords}
use Rattle.commands.specs.Files.{LoadAnswers, IsOpened}
use Rattle.commands.specs.Lines.{IsLineUnprinted}
use Rattle.commands.specs.Inputs.{TellsUnread}
use Rattle.program_words.specs.Numbers.{SpellsGeometry, number_of}

-- the words are numbers, those of a geometry and of a capacity
pub record AsksForCapacity (words : CertificateWords) (g : Geometry) (capacity : ℕ) : Type 0 where
  pub numbers : GeometryNumbers
  pub geometry : SpellsGeometry words.geometry.now numbers
  pub capacity_is : number_of words.capacity.now ≡ Some capacity
  pub valid : HasNumbers numbers.data_bytes numbers.spare_bytes numbers.pages numbers.blocks numbers.sectors g
  pub least : 1 ≤ capacity
  pub most : capacity ≤ 65536

-- why they are not: the first word that is no number, else the first limit of a die, else the capacity
abbrev pub IsUnasked : CertificateWords → CommandFault → Type 0
IsUnasked words (fault.BadNumber word) =
    ((word.now ≡ words.geometry.now) × ((numbers : GeometryNumbers) → ¬ SpellsGeometry words.geometry.now numbers))
    ⊎ ((word.now ≡ words.capacity.now) × ((numbers : GeometryNumbers) × SpellsGeometry words.geometry.now numbers) × (number_of words.capacity.now ≡ None))
IsUnasked words (fault.Geometry broken) =
    (numbers : GeometryNumbers) × (capacity : ℕ) × SpellsGeometry words.geometry.now numbers × (number_of words.capacity.now ≡ Some capacity)
    × IsFirstFault numbers.data_bytes numbers.spare_bytes numbers.pages numbers.blocks numbers.sectors broken
IsUnasked words fault.Capacity =
    (numbers : GeometryNumbers) × (g : Geometry) × (capacity : ℕ) × SpellsGeometry words.geometry.now numbers × (number_of words.capacity.now ≡ Some capacity)
    × HasNumbers numbers.data_bytes numbers.spare_bytes numbers.pages numbers.blocks numbers.sectors g × ((capacity ≡ 0) ⊎ (65536 < capacity))
IsUnasked words _ = ⊥

-- and the image's file was opened, of which these bytes are known, and the certificate's read; `gives` tells what a load of a path may
-- answer, and `tells` that the reader's bytes are known
pub record HasFiles (gives : LoadAnswers) (tells : Bool) (words : CertificateWords) (g : Geometry) (capacity : ℕ) (known : Option (List ℕ)) (written : List ℕ) : Type 0 where
  pub asked : AsksForCapacity words g capacity
  pub image : IsOpened gives tells words.image.now known
  pub certificate : gives words.certificate.now (Ok written)

-- the bytes are those of this claim
pub record IsClaimSpelled (c : Claim) (written : List ℕ) : Type 0 where
  pub fits : Fits c
  pub spelled : certificate_bytes c ≡ written

-- the fault is the first that stands in the bytes of a certificate
abbrev pub IsNoCertificate : List ℕ → CommandFault → Type 0
IsNoCertificate written (fault.Certificate broken) = certificate.IsFirstCertificateFault written broken
IsNoCertificate written _ = ⊥

-- the path's file was read, and its bytes are those of this claim
pub record HoldsClaim (gives : LoadAnswers) (path : List ℕ) (c : Claim) : Type 0 where
  pub written : List ℕ
  pub given : gives path (Ok written)
  pub spelled : IsClaimSpelled c written

-- it was not, or its bytes are no certificate
abbrev pub HoldsNoClaim : LoadAnswers → List ℕ → CommandFault → Type 0
HoldsNoClaim gives path stop = TellsUnread gives path stop ⊎ ((written : List ℕ) × gives path (Ok written) × IsNoCertificate written stop)

-- as many bytes as the die's pages have
abbrev pub HasImageLength : Geometry → List ℕ → Type 0
HasImageLength g bytes = length bytes ≡ row_count g * page_bytes g

-- how a refusal of the image of this path is told: its length and its reads of the file, all else of the check
abbrev pub IsToldAs : Refusal → List ℕ → CommandFault → Type 0
IsToldAs r path fault.WrongLength = r ≡ refusals.WrongLength
IsToldAs r path (fault.Read at) = (r ≡ refusals.Source) × (at.now ≡ path)
IsToldAs r path (fault.Check other) = (other ≡ r) × (r ≢ refusals.WrongLength) × (r ≢ refusals.Source)
IsToldAs r path _ = ⊥

-- the certificate is of another geometry or another capacity just where this is what the checker says of it, whatever the image's file holds
pub record DiffersAs (g : Geometry) (capacity : ℕ) (c : Claim) (refusal : Refusal) : Type 0 where
  pub other : refusal ≡ refusals.GeometryDiffers → ¬ IsAsked g capacity c
  pub same : refusal ≢ refusals.GeometryDiffers → IsAsked g capacity c

-- Why the certificate was not found to agree with an image, of whose file the path and the known bytes are these. Of a certificate of another
-- geometry or another capacity that is told, and not what its image's file came to.
abbrev pub IsUnheld : Geometry → ℕ → List ℕ → Option (List ℕ) → Claim → CommandFault → Type 0
IsUnheld g capacity path known c fault.WrongLength = IsAsked g capacity c × IfSome known (λ bytes. ¬ HasImageLength g bytes)
IsUnheld g capacity path known c (fault.Read at) = IsAsked g capacity c × (at.now ≡ path)
IsUnheld g capacity path known c (fault.Check refusal) = DiffersAs g capacity c refusal
    × ((refusal ≡ refusals.OutOfMemory) ⊎ IfSome known (λ bytes. IsFirstWrong g capacity (raw_image g bytes) c refusal))
IsUnheld g capacity path known c _ = ⊥

-- the image is whole, and the certificate agrees with it
pub record IsHeld (g : Geometry) (capacity : ℕ) (bytes : List ℕ) (c : Claim) : Type 0 where
  pub whole : HasImageLength g bytes
  pub agrees : Agrees g capacity (raw_image g bytes) c

-- the certificate is of the geometry and the capacity, and so it is with the image that the file's bytes are, as far as these are known
pub record IsHeldAs (g : Geometry) (capacity : ℕ) (known : Option (List ℕ)) (c : Claim) : Type 0 where
  pub asked : IsAsked g capacity c
  pub held : IfSome known (λ bytes. IsHeld g capacity bytes c)

-- the line
abbrev pub accepted_line : List ℕ
accepted_line = codes "accepted" ++ (10 ∷ [])

-- What holding a certificate against the image of this path, and then printing, came to. Nothing is printed before it is held.
abbrev pub Accepts : Geometry → ℕ → (path : List ℕ) → (known : Option (List ℕ)) → Claim → (before after : Option (List ℕ)) → Result (Unit {0}) CommandFault → Type 0
Accepts g capacity path known c before after (Ok done) = IsHeldAs g capacity known c × Appends before after accepted_line
Accepts g capacity path known c before after (Err stop) =
    (Keeps before after × IsUnheld g capacity path known c stop) ⊎ (IsHeldAs g capacity known c × IsLineUnprinted accepted_line before after stop)

-- nothing was written to standard output, unless it is what failed
abbrev pub IsOutputKept : CommandFault → Option (List ℕ) → Option (List ℕ) → Type 0
IsOutputKept (fault.Write path) before after = Unit {0}
IsOutputKept _ before after = Keeps before after

-- ---- the command

-- the words ask for a check, and the image's file was not opened
pub record IsImageUnopened (gives : LoadAnswers) (words : CertificateWords) (stop : CommandFault) : Type 0 where
  pub geometry : Geometry
  pub capacity : ℕ
  pub asked : AsksForCapacity words geometry capacity
  pub unread : TellsUnread gives words.image.now stop

-- the image's file was opened, and the certificate's was not read
pub record LacksCertificate (gives : LoadAnswers) (tells : Bool) (words : CertificateWords) (stop : CommandFault) : Type 0 where
  pub geometry : Geometry
  pub capacity : ℕ
  pub known : Option (List ℕ)
  pub asked : AsksForCapacity words geometry capacity
  pub image : IsOpened gives tells words.image.now known
  pub unread : TellsUnread gives words.certificate.now stop

-- both were, and the bytes of the second are no certificate
pub record HasNoCertificate (gives : LoadAnswers) (tells : Bool) (words : CertificateWords) (stop : CommandFault) : Type 0 where
  pub geometry : Geometry
  pub capacity : ℕ
  pub known : Option (List ℕ)
  pub written : List ℕ
  pub files : HasFiles gives tells words geometry capacity known written
  pub broken : IsNoCertificate written stop

-- both were, and this is the certificate
pub record HasSpelledCertificate (gives : LoadAnswers) (tells : Bool) (words : CertificateWords) : Type 0 where
  pub geometry : Geometry
  pub capacity : ℕ
  pub known : Option (List ℕ)
  pub written : List ℕ
  pub claim : Claim
  pub files : HasFiles gives tells words geometry capacity known written
  pub spelled : IsClaimSpelled claim written

-- the certificate is what is asked for, the image is whole, and the one agrees with the other
abbrev pub CertificateHolds : {gives : LoadAnswers} {tells : Bool} {words : CertificateWords} → HasSpelledCertificate gives tells words → Type 0
CertificateHolds has = IsHeldAs has.geometry has.capacity has.known has.claim

-- or it was not found to
abbrev pub HoldsNot : {gives : LoadAnswers} {tells : Bool} {words : CertificateWords} → HasSpelledCertificate gives tells words → CommandFault → Type 0
HoldsNot {words = words} has stop = IsUnheld has.geometry has.capacity words.image.now has.known has.claim stop

-- Why the command ended before it was done. Each case says that none before it in the order held: the words, the image's file, the
-- certificate's file, the certificate's bytes, the image's length and the checker, and at last the printing.
abbrev pub IsCheckFault : LoadAnswers → Bool → CertificateWords → Option (List ℕ) → Option (List ℕ) → CommandFault → Type 0
IsCheckFault gives tells words before after stop =
    IsUnasked words stop
    ⊎ IsImageUnopened gives words stop
    ⊎ LacksCertificate gives tells words stop
    ⊎ HasNoCertificate gives tells words stop
    ⊎ ((has : HasSpelledCertificate gives tells words) × HoldsNot has stop)
    ⊎ ((has : HasSpelledCertificate gives tells words) × CertificateHolds has × IsLineUnprinted accepted_line before after stop)

-- What the command came to, with the bytes of standard output before and after.
abbrev pub DoesCheck : LoadAnswers → Bool → CertificateWords → Option (List ℕ) → Option (List ℕ) → Result (Unit {0}) CommandFault → Type 0
DoesCheck gives tells words before after (Ok done) = (has : HasSpelledCertificate gives tells words) × CertificateHolds has × Appends before after accepted_line
DoesCheck gives tells words before after (Err stop) = IsOutputKept stop before after × IsCheckFault gives tells words before after stop
