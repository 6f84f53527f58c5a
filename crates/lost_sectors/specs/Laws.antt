-- What is told of a die, and what is not. The mark is the sequence that was next when all was flushed: no entry was stale then.
use Rattle.std.specs.Prelude.{◌≡◌, ◌↔◌, ◌⊎◌, ℕ, ◌/◌, ◌<◌, ◌≤◌, true, false, List, [], length, slice_get, slice_set, Some, None}
use Rattle.page_layout.specs.declared.geometry.Geometry.{Geometry}
use Rattle.page_layout.specs.declared.record.Record.{Record}
use Rattle.page_layout.specs.declared.record.Key.{Key}
use Rattle.page_layout.specs.declared.record.Key.TheVariants.{Sector, Translation}
use Rattle.page_layout.specs.Geometry.{entries}
use Rattle.page_layout.specs.Page.{Image, Page, body_at}
use Rattle.page_layout.specs.Sound.{record_of}
use Rattle.page_layout.specs.Key.{key_of}
use Rattle.page_layout.specs.Newest.{newest}
use Rattle.page_layout.specs.OneArray.{AreBelow}
use Rattle.page_layout.specs.Array.{marks, HasOneArray}
use Rattle.page_layout.specs.Change.{IsUnsoundAt, Keeps, Writes}
use Rattle.translation_pages.specs.Entry.{entry_of}
use Rattle.image_check.specs.Stale.{is_stale, stale_sectors}
use Rattle.image_laws.specs.Power.{LosesPower, IsPageSince}
use Rattle.lost_sectors.specs.Lost.{IsLost, is_lost, lost_sectors, newest_sequence}

-- the computed answer is the criterion
abbrev pub LostLaw : Type 0
LostLaw = (g : Geometry) (image : Image) (mark n : ℕ) → (is_lost g image mark n ≡ true) ↔ IsLost g image mark n

-- ---- none is told

-- a key's newest page is the one that it was
pub record StandsAsIn (old new : Image) (key : Key) : Type 0 where
  pub newest_same : newest (marks new) key ≡ newest (marks old) key
  pub body_same : (row : ℕ) → newest (marks old) key ≡ Some row → body_at new row ≡ body_at old row

-- or one of the mark's sequence or a later one
abbrev pub IsSince : (mark : ℕ) → Image → Key → Type 0
IsSince mark new key = (s : ℕ) × (newest_sequence new key ≡ Some s) × (mark ≤ s)

-- SO IT IS OF EACH KEY
pub record KeepsSince (mark : ℕ) (old new : Image) : Type 0 where
  pub each : (key : Key) → StandsAsIn old new key ⊎ IsSince mark new key

-- as where nothing was done since
abbrev pub SameLaw : Type 0
SameLaw = (mark : ℕ) (image : Image) → KeepsSince mark image image

-- AFTER EACH STEP OF THE DIE: what changes nothing that counts, as an erase of a block without a newest page, or a program that fails or is cut short; and a program with
-- the mark's sequence or a later one
abbrev pub StepLaw : Type 0
StepLaw = (g : Geometry) (mark : ℕ) (old mid new : Image) → KeepsSince mark old mid
    → Keeps g mid new ⊎ ((r : Record) × (row : ℕ) × (body : List ℕ) × (mark ≤ r.sequence) × Writes g r row body mid new) → KeepsSince mark old new

-- AND AFTER A LOSS OF POWER, where each page that was programmed since the sync has the mark's sequence or a later one
abbrev pub KeepsAfterLossLaw : Type 0
KeepsAfterLossLaw = (g : Geometry) (mark : ℕ) (stored left found : Image) → LosesPower g stored left found
    → ((key : Key) (row : ℕ) (its : IsPageSince stored left key row) → mark ≤ its.its.sequence) → KeepsSince mark stored found

-- NO SECTOR IS TOLD of a die that was flushed and never damaged, whatever went on since
abbrev pub NoneToldLaw : Type 0
NoneToldLaw = (g : Geometry) (mark : ℕ) (flushed new : Image) → stale_sectors g flushed ≡ [] → KeepsSince mark flushed new → lost_sectors g new mark ≡ []

-- ---- what is told

-- each row has its page, or one without a sound record
pub record Damages (old new : Image) : Type 0 where
  pub size : length new ≡ length old
  pub rows : (row : ℕ) → (slice_get new row ≡ slice_get old row) ⊎ IsUnsoundAt new row

-- SO IT IS OF A DIE THAT NOTHING HIT
abbrev pub UndamagedLaw : Type 0
UndamagedLaw = (image : Image) → Damages image image

-- AND AFTER ANY PAGE MORE IS LEFT WITHOUT A SOUND RECORD, as many as there are
abbrev pub OneMoreDamageLaw : Type 0
OneMoreDamageLaw = (old new : Image) (row : ℕ) (left : Page) → Damages old new → record_of left ≡ None → Damages old (slice_set new row left)

-- a sector's page that its translation page names is older than that
pub record NamesOlder (g : Geometry) (image : Image) (n : ℕ) : Type 0 where
  pub older : (row s t : ℕ) → newest (marks image) (Sector n) ≡ Some row → entry_of g image n ≡ Some row → newest_sequence image (Sector n) ≡ Some s
      → newest_sequence image (Translation (n / entries g)) ≡ Some t → s < t

-- AS AFTER EACH PROGRAM OF A TRANSLATION PAGE of a sequence above all: it is younger than all that it names
abbrev pub NamesLaw : Type 0
NamesLaw = (g : Geometry) (r : Record) (row : ℕ) (body : List ℕ) (old new : Image) (n : ℕ) → Writes g r row body old new → key_of r ≡ Translation (n / entries g)
    → AreBelow (marks old) r.sequence → NamesOlder g new n

-- the translation page of sector n is as it was
abbrev pub PageStays : Geometry → (old new : Image) → (n : ℕ) → Type 0
PageStays g old new n = (row : ℕ) → newest (marks old) (Translation (n / entries g)) ≡ Some row → slice_get new row ≡ slice_get old row

-- EACH SECTOR IS TOLD WHOSE NAMED PAGE HAS NO SOUND RECORD, and that has no page as young as its translation page
abbrev pub UnsoundLaw : Type 0
UnsoundLaw = (g : Geometry) (image : Image) (mark n row t : ℕ) → entry_of g image n ≡ Some row → IsUnsoundAt image row
    → newest_sequence image (Translation (n / entries g)) ≡ Some t → t < mark → ((s : ℕ) → newest_sequence image (Sector n) ≡ Some s → s < t) → IsLost g image mark n

-- SO OF A FLUSHED DIE THAT WAS DAMAGED, where the translation page was spared, sector n is told just where its newest page was hit
abbrev pub DamageLaw : Type 0
DamageLaw = (g : Geometry) (mark : ℕ) (flushed new : Image) (n row : ℕ) → HasOneArray g flushed → AreBelow (marks flushed) mark → is_stale g flushed n ≡ false
    → NamesOlder g flushed n → Damages flushed new → PageStays g flushed new n → newest (marks flushed) (Sector n) ≡ Some row → IsLost g new mark n ↔ IsUnsoundAt new row
