-- What is left of an image in which pages were left without a sound record, as a program or an erase that fails or is cut short leaves them.
use Rattle.std.specs.Prelude.{◌≡◌, ◌≢◌, ℕ, ◌+◌, ◌<◌, ◌≤◌, ◌^◌, List, slice_set, Some}
use Rattle.page_layout.specs.declared.geometry.Geometry.{Geometry}
use Rattle.page_layout.specs.declared.record.Record.{Record}
use Rattle.page_layout.specs.declared.record.Key.{Key}
use Rattle.page_layout.specs.declared.record.Key.TheVariants.{Sector}
use Rattle.page_layout.specs.Page.{Image, IsImage}
use Rattle.page_layout.specs.Key.{key_of}
use Rattle.page_layout.specs.Newest.{newest}
use Rattle.page_layout.specs.Array.{marks, sector_of, array_of, HasOneArray}
use Rattle.page_layout.specs.Change.{IsErasedAt, FailsAt, LosesIn, HoldsNone, Keeps, Writes}
use Rattle.image_check.specs.Stale.{stale_sectors}
use Rattle.image_check.specs.Mountable.{IsMountable}

-- ---- any page, also a newest one

-- each key has its newest page where it was, unless that is the page which was lost
abbrev pub OtherKeysLaw : Type 0
OtherKeysLaw = (g : Geometry) (row : ℕ) (old new : Image) (key : Key) → HasOneArray g old → FailsAt row old new → newest (marks old) key ≢ Some row
    → newest (marks new) key ≡ newest (marks old) key

-- where the lost page was no sector's newest one, the array is as it was
abbrev pub NoSectorLaw : Type 0
NoSectorLaw = (g : Geometry) (row : ℕ) (old new : Image) → HasOneArray g old → FailsAt row old new
    → ((n : ℕ) → newest (marks old) (Sector n) ≢ Some row) → array_of g new ≡ array_of g old

-- where it was that of a sector, the array is another in that sector at most
abbrev pub OneSectorLaw : Type 0
OneSectorLaw = (g : Geometry) (row n : ℕ) (old new : Image) → HasOneArray g old → FailsAt row old new → n < g.sectors
    → newest (marks old) (Sector n) ≡ Some row → array_of g new ≡ slice_set (array_of g old) n (sector_of g new n)

-- it is one array still
abbrev pub StillOneLaw : Type 0
StillOneLaw = (g : Geometry) (row : ℕ) (old new : Image) → HasOneArray g old → FailsAt row old new → HasOneArray g new

-- ---- pages that are no newest ones

-- AN IMAGE THAT STANDS FOR ANOTHER: it holds the same array, the same sectors are stale, and it has a certificate for each capacity for which
-- the other one has
pub record StandsFor (g : Geometry) (old new : Image) : Type 0 where
  pub array : array_of g new ≡ array_of g old
  pub stale : stale_sectors g new ≡ stale_sectors g old
  pub mountable : (capacity : ℕ) → IsMountable g capacity old → IsMountable g capacity new

-- where nothing that counts has changed
abbrev pub KeepsStandsForLaw : Type 0
KeepsStandsForLaw = (g : Geometry) (old new : Image) → IsImage g old → Keeps g old new → StandsFor g old new

-- a program of an erased page, failed or cut short
abbrev pub TornProgramLaw : Type 0
TornProgramLaw = (g : Geometry) (row : ℕ) (old new : Image) → IsImage g old → HasOneArray g old → IsErasedAt old row → FailsAt row old new
    → StandsFor g old new

-- an erase, passed, failed or cut short in any of its pages, of a block with no newest page
abbrev pub TornEraseLaw : Type 0
TornEraseLaw = (g : Geometry) (block : ℕ) (old new : Image) → IsImage g old → HasOneArray g old → HoldsNone g.pages block old
    → LosesIn g.pages block old new → StandsFor g old new

-- ---- a page that was programmed

-- of a sector: the image has a certificate for one stale sector more, as long as a sequence is left
abbrev pub OneMoreStaleLaw : Type 0
OneMoreStaleLaw = (g : Geometry) (capacity n row : ℕ) (r : Record) (body : List ℕ) (old new : Image) → IsImage g old → key_of r ≡ Sector n
    → Writes g r row body old new → r.sequence + 1 < 2 ^ 64 → capacity + 1 ≤ 65536 → IsMountable g capacity old → IsMountable g (capacity + 1) new
