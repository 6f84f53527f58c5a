-- What a certificate that was mounted is to the checker, and when an image isn't refused as one that was never formatted.
use Rattle.std.specs.Prelude.{◌≡◌, ◌⊎◌, ℕ, ◌<◌, List, length, get_or, Option, Some, None}
use Rattle.page_layout.specs.declared.geometry.Geometry.{Geometry}
use Rattle.page_layout.specs.declared.record.Record.{Record}
use Rattle.page_layout.specs.declared.record.Key.{Key}
use Rattle.page_layout.specs.declared.record.Key.TheVariants.{Table}
use Rattle.page_layout.specs.Geometry.{table_pages}
use Rattle.page_layout.specs.Key.{key_of}
use Rattle.page_layout.specs.Page.{Image}
use Rattle.page_layout.specs.Array.{marks}
use Rattle.certificate.specs.Claim.{Claim}
use Rattle.image_check.specs.declared.refusal.Refusal.{Refusal}
use Rattle.image_check.specs.declared.refusal.Refusal.TheVariants as refusals
use Rattle.image_check.specs.Accepted.{Acceptance, IsAcceptance}
use Rattle.image_check.specs.Agrees.{AreInRange}
use Rattle.image_check.specs.Refused.{IsRefusal, RepeatsSequence, StopsCheck}
use Rattle.image_check.specs.Stale.{stale_count}
use Rattle.mount.specs.Mounted.{IsMounted, Refuses}

-- The checker accepts the certificate, with so many stale sectors: it never refuses it but for a page read that failed or
-- memory that was refused.
pub record IsAcceptedWith (g : Geometry) (capacity : ℕ) (image : Image) (c : Claim) (stale : ℕ) : Type 0 where
  pub refused : (r : Refusal) → IsRefusal g capacity image c r → StopsCheck r
  pub counted : (a : Acceptance) → IsAcceptance g capacity image c a → length a.stale ≡ stale

-- the certificate that mounting gives
abbrev pub AcceptedLaw : Type 0
AcceptedLaw = (g : Geometry) (capacity : ℕ) (image : Image) (c : Claim) → IsMounted g capacity image c → IsAcceptedWith g capacity image c (stale_count g image)

-- the refusal tells of two pages that share a sequence
abbrev pub IsShared : Refusal → Type 0
IsShared r = (first : ℕ) × (second : ℕ) × (r ≡ refusals.SequenceRepeated first second)

-- An image whose numbers are in range, and two of whose sound pages share a sequence, is refused for that and for nothing
-- else, memory and page reads aside. So is a tie of the only pages of a table page.
abbrev pub SharedLaw : Type 0
SharedLaw = (g : Geometry) (capacity : ℕ) (image : Image) (a b : ℕ) (r : Refusal) → AreInRange g (marks image) → RepeatsSequence (marks image) a b → Refuses g capacity image r → StopsCheck r ⊎ IsShared r

-- some page is sound and of the key
pub record HasSoundPage (marks : List (Option Record)) (key : Key) : Type 0 where
  pub row : ℕ
  pub its : Record
  pub here : get_or marks row None ≡ Some its
  pub of_key : key_of its ≡ key

-- it asks no more of a key than that: the record of any row is one for its own
abbrev pub SoundPageLaw : Type 0
SoundPageLaw = (marks : List (Option Record)) (row : ℕ) (its : Record) → get_or marks row None ≡ Some its → HasSoundPage marks (key_of its)

-- an image in which each table page has a sound page isn't refused as not formatted, even if those of some table page tie
abbrev pub TableTieLaw : Type 0
TableTieLaw = (g : Geometry) (capacity : ℕ) (image : Image) → ((u : ℕ) → u < table_pages g → HasSoundPage (marks image) (Table u)) → ¬ Refuses g capacity image refusals.NotFormatted
