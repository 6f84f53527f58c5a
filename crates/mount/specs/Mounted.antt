-- What mounting an image gives, and what a refusal to mount it says.
use Rattle.std.specs.Prelude.{◌≡◌, ℕ, ◌+◌, ◌-◌, ◌^◌, ◌<◌, ◌⊎◌, List, get_or, Option, Some, None}
use Rattle.page_layout.specs.declared.geometry.Geometry.{Geometry}
use Rattle.page_layout.specs.declared.record.Record.{Record}
use Rattle.page_layout.specs.Page.{Image}
use Rattle.page_layout.specs.Array.{marks}
use Rattle.page_layout.specs.OneArray.{AreDistinct, AreBelow}
use Rattle.certificate.specs.Claim.{Claim}
use Rattle.image_check.specs.declared.refusal.Refusal.{Refusal}
use Rattle.image_check.specs.declared.refusal.Refusal.TheVariants as refusals
use Rattle.image_check.specs.Agrees.{Agrees, AreInRange, HasTables}
use Rattle.image_check.specs.Mountable.{IsMountable}
use Rattle.image_check.specs.Stale.{stale_count}
use Rattle.image_check.specs.Survey.{IsFirstOutside}
use Rattle.image_check.specs.Refused.{Part, Numbers, Sequences, Tables, order, part_of, IsFirstRepeated, IsUnformatted, IsTableDamaged, StopsCheck}

-- one more than the greatest sequence of all sound pages
pub record IsNextSequence (marks : List (Option Record)) (next : ℕ) : Type 0 where
  pub row : ℕ
  pub greatest : Record
  pub here : get_or marks row None ≡ Some greatest
  pub is : next ≡ greatest.sequence + 1
  pub above : AreBelow marks next

-- the certificate agrees with the image, and no sequence is left out
pub record IsMounted (g : Geometry) (capacity : ℕ) (image : Image) (c : Claim) : Type 0 where
  pub agrees : Agrees g capacity image c
  pub next : IsNextSequence (marks image) c.next

-- a sound page has the greatest sequence that there is, and no page can follow it
pub record IsSpent (marks : List (Option Record)) : Type 0 where
  pub row : ℕ
  pub last : Record
  pub here : get_or marks row None ≡ Some last
  pub is : last.sequence ≡ 2 ^ 64 - 1

-- what a refusal says of the image. The other refusals are of a certificate, and mounting has none
abbrev pub ShowsRefusal : Geometry → ℕ → Image → Refusal → Type 0
ShowsRefusal g capacity image (refusals.NumberRange row) = IsFirstOutside g (marks image) row
ShowsRefusal g capacity image (refusals.SequenceRepeated a b) = IsFirstRepeated (marks image) a b
ShowsRefusal g capacity image refusals.NotFormatted = IsUnformatted g image
ShowsRefusal g capacity image (refusals.TableDamaged u) = IsTableDamaged g image u
ShowsRefusal g capacity image refusals.NextSequence = IsSpent (marks image)
ShowsRefusal g capacity image (refusals.TooStale stale most) = (stale ≡ stale_count g image) × (most ≡ capacity) × (capacity < stale)
ShowsRefusal g capacity image refusals.GeometryDiffers = ⊥
ShowsRefusal g capacity image (refusals.DirectoryWrong i) = ⊥
ShowsRefusal g capacity image (refusals.NoSuchRecord n row) = ⊥
ShowsRefusal g capacity image (refusals.NotNewest n row) = ⊥
ShowsRefusal g capacity image (refusals.BadSetWrong b) = ⊥
ShowsRefusal g capacity image (refusals.BlockState b) = ⊥
ShowsRefusal g capacity image (refusals.LiveWrong b) = ⊥
ShowsRefusal g capacity image (refusals.WearWrong b) = ⊥
ShowsRefusal g capacity image refusals.Source = ⊥
ShowsRefusal g capacity image refusals.OutOfMemory = ⊥
ShowsRefusal g capacity image refusals.WrongLength = ⊥

-- the refusal names a part that comes later in the order than this one
abbrev pub IsAfter : Part → Refusal → Type 0
IsAfter part r = (named : Part) × (part_of r ≡ Some named) × (order part < order named)

-- No certificate agrees with the image, and the refusal says why. Of the parts that the pages alone decide those that come
-- before the one that it names are right.
-- Law: an image whose sound pages share a sequence is refused for that, if its numbers are in range (`SharedLaw`).
pub record IsUnmountable (g : Geometry) (capacity : ℕ) (image : Image) (r : Refusal) : Type 0 where
  pub none : ¬ IsMountable g capacity image
  pub shows : ShowsRefusal g capacity image r
  pub numbers : IsAfter Numbers r → AreInRange g (marks image)
  pub sequences : IsAfter Sequences r → AreDistinct (marks image)
  pub tables : IsAfter Tables r → HasTables g image

-- what a refusal to mount says: memory or a page read failed, or the image has no certificate
abbrev pub Refuses : Geometry → ℕ → Image → Refusal → Type 0
Refuses g capacity image r = StopsCheck r ⊎ IsUnmountable g capacity image r

-- a refusal that may come, whatever the pages were
abbrev pub IsOfMounting : Refusal → Type 0
IsOfMounting (refusals.NumberRange row) = Unit {0}
IsOfMounting (refusals.SequenceRepeated a b) = Unit {0}
IsOfMounting refusals.NotFormatted = Unit {0}
IsOfMounting (refusals.TableDamaged u) = Unit {0}
IsOfMounting refusals.NextSequence = Unit {0}
IsOfMounting (refusals.TooStale stale most) = Unit {0}
IsOfMounting refusals.Source = Unit {0}
IsOfMounting refusals.OutOfMemory = Unit {0}
IsOfMounting refusals.GeometryDiffers = ⊥
IsOfMounting (refusals.DirectoryWrong i) = ⊥
IsOfMounting (refusals.NoSuchRecord n row) = ⊥
IsOfMounting (refusals.NotNewest n row) = ⊥
IsOfMounting (refusals.BadSetWrong b) = ⊥
IsOfMounting (refusals.BlockState b) = ⊥
IsOfMounting (refusals.LiveWrong b) = ⊥
IsOfMounting (refusals.WearWrong b) = ⊥
IsOfMounting refusals.WrongLength = ⊥
