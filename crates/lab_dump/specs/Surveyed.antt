-- What a survey says of an image.
use Rattle.std.specs.Prelude.{◌≡◌, ◌↔◌, ℕ, ◌<◌, ◌≤◌, Bool, true, false, List, length, get_or, Option, Some, None, IfSome, option_map}
use Rattle.page_layout.specs.declared.geometry.Geometry.{Geometry}
use Rattle.page_layout.specs.declared.record.Record.{Record}
use Rattle.page_layout.specs.declared.record.Key.{Key}
use Rattle.page_layout.specs.declared.record.Key.TheVariants.{Table}
use Rattle.page_layout.specs.Geometry.{entries, key_count, table_pages, row_count}
use Rattle.page_layout.specs.Page.{Image}
use Rattle.page_layout.specs.Raw.{raw_image}
use Rattle.page_layout.specs.Array.{marks}
use Rattle.page_layout.specs.OneArray.{AreDistinct}
use Rattle.page_layout.specs.Live.{IsKeyOf}
use Rattle.bad_blocks.specs.TablePage.{IsWellFormed}
use Rattle.certificate.specs.declared.block_state.BlockState.{BlockState}
use Rattle.image_check.specs.Agrees.{AreInRange, HasTables}
use Rattle.image_check.specs.Blocks.{AreStates, table_body}
use Rattle.image_check.specs.Mountable.{IsMountable}
use Rattle.image_check.specs.Refused.{IsFirstRepeated}
use Rattle.image_check.specs.Stale.{stale_count}
use Rattle.image_check.specs.Survey.{index_of}
use Rattle.lab_dump.specs.Scan.{image_bytes}
use Rattle.lab_dump.specs.Rows.{within}
use Rattle.lab_dump.specs.declared.rows.Rows.{Rows}
use Rattle.lab_dump.specs.declared.pass.PassFault.{PassFault}
use Rattle.lab_dump.specs.declared.pass.PassFault.TheVariants as scan
use Rattle.lab_dump.specs.declared.held.KeyState.TheVariants as state
use Rattle.lab_dump.specs.declared.survey.SurveyFault.{SurveyFault}
use Rattle.lab_dump.specs.declared.survey.SurveyFault.TheVariants as fault
use Rattle.lab_dump.specs.declared.survey.DieSurvey.{DieSurvey}
use Rattle.lab_dump.specs.Count.{page_counts_of, unsound_in}
use Rattle.lab_dump.specs.Said.{said_of}
use Rattle.lab_dump.specs.Doubts.{doubts_of, legible_of}
use Rattle.lab_dump.specs.Keys.{key_state}

-- ---- its parts

-- no two sound pages share a sequence, or of those that do these are the first: no such pair has a lower second row
abbrev pub RepeatsAs : List (Option Record) → Option (ℕ × ℕ) → Type 0
RepeatsAs marks None = AreDistinct marks
RepeatsAs marks (Some rows) = IsFirstRepeated marks rows.0 rows.1

-- every number is in range, no two sound pages share a sequence, and each table page has a newest page, which is well formed
pub record HasReadableBlocks (g : Geometry) (image : Image) : Type 0 where
  pub numbers : AreInRange g (marks image)
  pub sequences : AreDistinct (marks image)
  pub tables : HasTables g image

-- the states of the blocks, or none where the image isn't so
abbrev pub BlocksAs : Geometry → Image → Option (List BlockState) → Type 0
BlocksAs g image None = ¬ HasReadableBlocks g image
BlocksAs g image (Some states) = HasReadableBlocks g image × AreStates g image states

-- of each table page that has a newest page whether that is well formed
abbrev pub FormedAs : Geometry → Image → List Bool → Type 0
FormedAs g image formed = (u : ℕ) → u < table_pages g → key_state image (Table u) ≡ state.Found → (get_or formed u false ≡ true) ↔ IsWellFormed (entries g) g.blocks u (table_body image u)

-- ---- the whole

-- the survey says of the image what is so
pub record IsSurveyed (g : Geometry) (image : Image) (s : DieSurvey) : Type 0 where
  pub counts : s.counts ≡ page_counts_of g image
  pub repeated : RepeatsAs (marks image) s.repeated
  pub keys : (key : Key) → IsKeyOf g key → get_or s.keys.items (index_of g key) state.Absent ≡ key_state image key
  pub formed : FormedAs g image s.formed.items
  pub unsound : (b : ℕ) → b < g.blocks → get_or s.unsound.items b 0 ≡ unsound_in g image b
  pub blocks : BlocksAs g image (option_map (λ states. states.items) s.blocks)
  pub said_is : s.left.said.items ≡ said_of g image
  pub legible_is : s.left.legible ≡ legible_of g image
  pub doubts_is : s.left.doubts ≡ doubts_of g image

-- The bytes are as many as an image has, and the survey is of the image that they are, in which every page of a row that isn't asked for is erased.
pub record IsSurveyOf (g : Geometry) (rows : Option Rows) (s : DieSurvey) (bytes : List ℕ) : Type 0 where
  pub whole : length bytes ≡ image_bytes g
  pub survey : IsSurveyed g (within g rows (raw_image g bytes)) s

-- its lists are as long as the geometry says
pub record IsSurveyWhole (g : Geometry) (s : DieSurvey) : Type 0 where
  pub keys : length s.keys.items ≡ key_count g
  pub formed : length s.formed.items ≡ table_pages g
  pub unsound : length s.unsound.items ≡ g.blocks
  pub blocks : IfSome s.blocks (λ states. length states.items ≡ g.blocks)

-- ---- why there is none

abbrev pub survey_fault_of : PassFault → SurveyFault
survey_fault_of scan.WrongLength = fault.WrongLength
survey_fault_of scan.Source = fault.Source
survey_fault_of scan.Stopped = fault.Source

-- `WrongLength` says that the bytes aren't as many as an image has
abbrev pub IsUnsurveyed : Geometry → SurveyFault → List ℕ → Type 0
IsUnsurveyed g fault.WrongLength bytes = ¬ (length bytes ≡ image_bytes g)
IsUnsurveyed g fault.Source bytes = Unit {0}

-- ---- the reasons against a mount

-- the survey tells of no number out of range, no shared sequence, no table page that is missing, tied or damaged, and no last sequence
pub record HasNoReason (g : Geometry) (s : DieSurvey) : Type 0 where
  pub outside : s.counts.outside ≡ 0
  pub repeated : s.repeated ≡ None
  pub tables : (u : ℕ) → u < table_pages g → get_or s.keys.items (index_of g (Table u)) state.Absent ≡ state.Found
  pub formed : (u : ℕ) → u < table_pages g → get_or s.formed.items u false ≡ true
  pub last : s.counts.last ≡ 0

-- An image mounts just where its survey tells of none of these, and the cache has an entry for each stale sector.
abbrev pub MountsLaw : Type 0
MountsLaw = (g : Geometry) (capacity : ℕ) (image : Image) (s : DieSurvey) → length image ≡ row_count g → 1 ≤ capacity → capacity ≤ 65536 → IsSurveyed g image s
    → IsMountable g capacity image ↔ (HasNoReason g s × (stale_count g image ≤ capacity))
