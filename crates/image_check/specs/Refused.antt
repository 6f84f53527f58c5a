-- What each refusal says: the parts before the one that it names hold, that one fails, and where.
use Rattle.std.specs.Prelude.{◌≡◌, ◌≢◌, ℕ, ◌+◌, ◌<◌, ◌≤◌, ◌⊎◌, List, length, get_or, slice_get, Option, Some, None}
use Rattle.page_layout.specs.declared.geometry.Geometry.{Geometry}
use Rattle.page_layout.specs.declared.record.Record.{Record}
use Rattle.page_layout.specs.declared.record.Key.TheVariants.{Sector, Translation, Table}
use Rattle.page_layout.specs.Geometry.{entries, translation_pages, table_pages}
use Rattle.page_layout.specs.Page.{Image}
use Rattle.page_layout.specs.Newest.{newest, sequence_at}
use Rattle.page_layout.specs.OneArray.{AreDistinct, AreBelow}
use Rattle.page_layout.specs.Array.{marks}
use Rattle.bad_blocks.specs.TablePage.{IsWellFormed}
use Rattle.certificate.specs.declared.block_state.BlockState.{BlockState}
use Rattle.certificate.specs.Claim.{Claim}
use Rattle.image_check.specs.declared.refusal.Refusal.{Refusal}
use Rattle.image_check.specs.declared.refusal.Refusal.TheVariants as refusals
use Rattle.image_check.specs.Blocks.{table_body}
use Rattle.image_check.specs.Stale.{stale_count}
use Rattle.image_check.specs.Survey.{IsFirstOutside, AreClaimed}
use Rattle.image_check.specs.Agrees.{IsAsked, AreInRange, HasTables, IsDirectory, AreNewest, IsBadSet, IsState, IsLive, IsWear, EachState}

-- the parts of `Agrees`, in the order in which they are looked at
pub data Part : Type 0 where
  Asked : Part
  Numbers : Part
  Sequences : Part
  Tables : Part
  Directory : Part
  Sectors : Part
  BadSet : Part
  States : Part
  Live : Part
  Wear : Part
  Next : Part
  Fresh : Part

abbrev pub Holds : Geometry → ℕ → Image → Claim → Part → Type 0
Holds g capacity image c Asked = IsAsked g capacity c
Holds g capacity image c Numbers = AreInRange g (marks image)
Holds g capacity image c Sequences = AreDistinct (marks image)
Holds g capacity image c Tables = HasTables g image
Holds g capacity image c Directory = IsDirectory g image c.directory
Holds g capacity image c Sectors = AreNewest g image c.sectors
Holds g capacity image c BadSet = EachState g.blocks c.blocks (IsBadSet g image)
Holds g capacity image c States = EachState g.blocks c.blocks (IsState g image)
Holds g capacity image c Live = EachState g.blocks c.blocks (IsLive g image)
Holds g capacity image c Wear = EachState g.blocks c.blocks (IsWear g image)
Holds g capacity image c Next = AreBelow (marks image) c.next
Holds g capacity image c Fresh = stale_count g image ≤ capacity

-- the place of a part in that order
abbrev pub order : Part → ℕ
order Asked = 0
order Numbers = 1
order Sequences = 2
order Tables = 3
order Directory = 4
order Sectors = 5
order BadSet = 6
order States = 7
order Live = 8
order Wear = 9
order Next = 10
order Fresh = 11

-- each part before this one holds
abbrev pub HoldsBefore : Geometry → ℕ → Image → Claim → Part → Type 0
HoldsBefore g capacity image c part = (p : Part) → order p < order part → Holds g capacity image c p

-- ---- where a part fails

-- two sound pages share a sequence
pub record RepeatsSequence (marks : List (Option Record)) (a b : ℕ) : Type 0 where
  pub order : a < b
  pub first : Record
  pub second : Record
  pub at_first : get_or marks a None ≡ Some first
  pub at_second : get_or marks b None ≡ Some second
  pub same : first.sequence ≡ second.sequence

-- of all such pairs the one whose second row is lowest
pub record IsFirstRepeated (marks : List (Option Record)) (a b : ℕ) : Type 0 where
  pub pair : RepeatsSequence marks a b
  pub lowest : (c d : ℕ) → RepeatsSequence marks c d → b ≤ d

-- some table page has no sound page
pub record IsUnformatted (g : Geometry) (image : Image) : Type 0 where
  pub page : ℕ
  pub within : page < table_pages g
  pub missing : (row : ℕ) → sequence_at (marks image) (Table page) row ≡ None

-- each table page has one, and this is the first that isn't well formed
pub record IsTableDamaged (g : Geometry) (image : Image) (u : ℕ) : Type 0 where
  pub within : u < table_pages g
  pub wrong : ¬ IsWellFormed (entries g) g.blocks u (table_body image u)
  pub before : (v : ℕ) → v < u → IsWellFormed (entries g) g.blocks v (table_body image v)
  pub there : (v : ℕ) → v < table_pages g → newest (marks image) (Table v) ≢ None

-- the directory's row number i isn't that of its key's newest page
abbrev pub IsDirectoryWrong : Geometry → Image → List (Option ℕ) → ℕ → Type 0
IsDirectoryWrong g image rows i =
    ((i < translation_pages g) × (slice_get rows i ≢ Some (newest (marks image) (Translation i))))
    ⊎ ((u : ℕ) × (u < table_pages g) × (i ≡ translation_pages g + u) × (slice_get rows i ≢ Some (newest (marks image) (Table u))))

-- the first such row
pub record IsFirstDirectoryWrong (g : Geometry) (image : Image) (rows : List (Option ℕ)) (i : ℕ) : Type 0 where
  pub wrong : IsDirectoryWrong g image rows i
  pub before : (j : ℕ) → j < i → ¬ IsDirectoryWrong g image rows j

-- the first sector whose row in the certificate holds no sound page of it
pub record IsNoSuchRecord (g : Geometry) (image : Image) (rows : List (Option ℕ)) (n row : ℕ) : Type 0 where
  pub within : n < g.sectors
  pub claimed : slice_get rows n ≡ Some (Some row)
  pub missing : sequence_at (marks image) (Sector n) row ≡ None
  pub before : AreClaimed n (marks image) rows

-- each row that the certificate claims holds a sound page of its sector, and this is the first sector whose newest page lies elsewhere
pub record IsNotNewest (g : Geometry) (image : Image) (rows : List (Option ℕ)) (n row : ℕ) : Type 0 where
  pub within : n < g.sectors
  pub newest_is : newest (marks image) (Sector n) ≡ Some row
  pub claimed : slice_get rows n ≢ Some (Some row)
  pub before : (m : ℕ) → m < n → slice_get rows m ≡ Some (newest (marks image) (Sector m))
  pub there : AreClaimed (length rows) (marks image) rows

-- the first block whose state doesn't pass
pub record IsWrongBlock (g : Geometry) (states : List BlockState) (b : ℕ) (P : ℕ → BlockState → Type 0) : Type 0 where
  pub within : b < g.blocks
  pub state : BlockState
  pub at : slice_get states b ≡ Some state
  pub wrong : ¬ P b state
  pub before : EachState b states P

-- ---- the refusals

-- what a refusal says of the image and of the certificate
abbrev pub RefusalSays : Geometry → ℕ → Image → Claim → Refusal → Type 0
RefusalSays g capacity image c refusals.GeometryDiffers = Unit {0}
RefusalSays g capacity image c (refusals.NumberRange row) = IsFirstOutside g (marks image) row
RefusalSays g capacity image c (refusals.SequenceRepeated a b) = IsFirstRepeated (marks image) a b
RefusalSays g capacity image c refusals.NotFormatted = IsUnformatted g image
RefusalSays g capacity image c (refusals.TableDamaged u) = IsTableDamaged g image u
RefusalSays g capacity image c (refusals.DirectoryWrong i) = IsFirstDirectoryWrong g image c.directory i
RefusalSays g capacity image c (refusals.NoSuchRecord n row) = IsNoSuchRecord g image c.sectors n row
RefusalSays g capacity image c (refusals.NotNewest n row) = IsNotNewest g image c.sectors n row
RefusalSays g capacity image c (refusals.BadSetWrong b) = IsWrongBlock g c.blocks b (IsBadSet g image)
RefusalSays g capacity image c (refusals.BlockState b) = IsWrongBlock g c.blocks b (IsState g image)
RefusalSays g capacity image c (refusals.LiveWrong b) = IsWrongBlock g c.blocks b (IsLive g image)
RefusalSays g capacity image c (refusals.WearWrong b) = IsWrongBlock g c.blocks b (IsWear g image)
RefusalSays g capacity image c refusals.NextSequence = Unit {0}
RefusalSays g capacity image c (refusals.TooStale stale most) = (stale ≡ stale_count g image) × (most ≡ capacity)
RefusalSays g capacity image c refusals.Source = Unit {0}
RefusalSays g capacity image c refusals.OutOfMemory = Unit {0}
RefusalSays g capacity image c refusals.WrongLength = Unit {0}

-- the part that a refusal names. Want of memory, a page read that failed and an image of another length name none
abbrev pub part_of : Refusal → Option Part
part_of refusals.GeometryDiffers = Some Asked
part_of (refusals.NumberRange row) = Some Numbers
part_of (refusals.SequenceRepeated a b) = Some Sequences
part_of refusals.NotFormatted = Some Tables
part_of (refusals.TableDamaged u) = Some Tables
part_of (refusals.DirectoryWrong i) = Some Directory
part_of (refusals.NoSuchRecord n row) = Some Sectors
part_of (refusals.NotNewest n row) = Some Sectors
part_of (refusals.BadSetWrong b) = Some BadSet
part_of (refusals.BlockState b) = Some States
part_of (refusals.LiveWrong b) = Some Live
part_of (refusals.WearWrong b) = Some Wear
part_of refusals.NextSequence = Some Next
part_of (refusals.TooStale stale most) = Some Fresh
part_of refusals.Source = None
part_of refusals.OutOfMemory = None
part_of refusals.WrongLength = None

-- the refusal names this part, the part fails, and it does so as the refusal says
pub record IsWrong (g : Geometry) (capacity : ℕ) (image : Image) (c : Claim) (part : Part) (r : Refusal) : Type 0 where
  pub part_is : part_of r ≡ Some part
  pub fails : ¬ Holds g capacity image c part
  pub says : RefusalSays g capacity image c r

-- the same, and it is the first part that fails
pub record IsFirstWrong (g : Geometry) (capacity : ℕ) (image : Image) (c : Claim) (r : Refusal) : Type 0 where
  pub part : Part
  pub wrong : IsWrong g capacity image c part r
  pub before : HoldsBefore g capacity image c part

-- what a judge of a survey may refuse for: the parts of the image and of the certificate, and nothing that stops a check
abbrev pub IsJudgement : Refusal → Type 0
IsJudgement refusals.GeometryDiffers = ⊥
IsJudgement (refusals.NumberRange row) = Unit {0}
IsJudgement (refusals.SequenceRepeated a b) = Unit {0}
IsJudgement refusals.NotFormatted = Unit {0}
IsJudgement (refusals.TableDamaged u) = Unit {0}
IsJudgement (refusals.DirectoryWrong i) = Unit {0}
IsJudgement (refusals.NoSuchRecord n row) = Unit {0}
IsJudgement (refusals.NotNewest n row) = Unit {0}
IsJudgement (refusals.BadSetWrong b) = Unit {0}
IsJudgement (refusals.BlockState b) = Unit {0}
IsJudgement (refusals.LiveWrong b) = Unit {0}
IsJudgement (refusals.WearWrong b) = Unit {0}
IsJudgement refusals.NextSequence = Unit {0}
IsJudgement (refusals.TooStale stale most) = Unit {0}
IsJudgement refusals.Source = ⊥
IsJudgement refusals.OutOfMemory = ⊥
IsJudgement refusals.WrongLength = ⊥

-- what the pages of an image may be refused for, whatever a certificate says of them
abbrev pub IsOfImage : Refusal → Type 0
IsOfImage refusals.GeometryDiffers = ⊥
IsOfImage (refusals.NumberRange row) = Unit {0}
IsOfImage (refusals.SequenceRepeated a b) = Unit {0}
IsOfImage refusals.NotFormatted = Unit {0}
IsOfImage (refusals.TableDamaged u) = Unit {0}
IsOfImage (refusals.DirectoryWrong i) = ⊥
IsOfImage (refusals.NoSuchRecord n row) = ⊥
IsOfImage (refusals.NotNewest n row) = ⊥
IsOfImage (refusals.BadSetWrong b) = ⊥
IsOfImage (refusals.BlockState b) = ⊥
IsOfImage (refusals.LiveWrong b) = ⊥
IsOfImage (refusals.WearWrong b) = ⊥
IsOfImage refusals.NextSequence = ⊥
IsOfImage (refusals.TooStale stale most) = ⊥
IsOfImage refusals.Source = ⊥
IsOfImage refusals.OutOfMemory = Unit {0}
IsOfImage refusals.WrongLength = ⊥

-- a growth was refused
abbrev pub IsMemory : Refusal → Type 0
IsMemory r = r ≡ refusals.OutOfMemory

-- a page read failed, or a growth was refused
abbrev pub StopsCheck : Refusal → Type 0
StopsCheck r = (r ≡ refusals.Source) ⊎ (r ≡ refusals.OutOfMemory)

-- what a refusal says: memory or a page read failed, or it names the first part that fails
abbrev pub IsRefusal : Geometry → ℕ → Image → Claim → Refusal → Type 0
IsRefusal g capacity image c r = StopsCheck r ⊎ IsFirstWrong g capacity image c r

-- ---- parts one after another

-- the parts from one place of the order up to another hold
pub record HoldBetween (g : Geometry) (capacity : ℕ) (image : Image) (c : Claim) (from to : ℕ) : Type 0 where
  pub part : (p : Part) → from ≤ order p → order p < to → Holds g capacity image c p

-- a part from this place on is the first that fails, and the refusal names it
pub record FailsFrom (g : Geometry) (capacity : ℕ) (image : Image) (c : Claim) (from : ℕ) (r : Refusal) : Type 0 where
  pub part : Part
  pub wrong : IsWrong g capacity image c part r
  pub before : (p : Part) → from ≤ order p → order p < order part → Holds g capacity image c p
