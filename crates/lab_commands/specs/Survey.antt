-- What the command `survey` comes to.
use Rattle.std.specs.Prelude.{◌≡◌, ◌⊎◌, ℕ, List, Option, IfSome, Bool}
use Rattle.std.specs.Io.KnownBytes.{Appends}
use Rattle.page_layout.specs.declared.geometry.Geometry.{Geometry}
use Rattle.lab_dump.specs.declared.rows.Rows.{Rows}
use Rattle.lab_dump.specs.declared.survey.DieSurvey.{DieSurvey}
use Rattle.lab_dump.specs.Surveyed.{IsSurveyOf}
use Rattle.lab_commands.specs.Reports.{survey_text}
use Rattle.lab_commands.specs.declared.words.SurveyWords.{SurveyWords}
use Rattle.lab_commands.specs.declared.text.LabFault.{LabFault}
use Rattle.lab_commands.specs.Files.{IsFileOpened, Store, StoreAnswers}
use Rattle.lab_commands.specs.Rows.{AreNoRows, AreRowsAt}
use Rattle.lab_commands.specs.Undone.{IsGeometryAt, IsHalfPrinted, IsNoGeometry, IsUnread, IsUnroomed, IsDumpUntaken, LeavesAll, form_of_showing}

-- a survey of these rows of a dump that reads so: where its bytes are known it is of the image that they are
pub record IsSurveyOfDump (a : StoreAnswers) (path : List ℕ) (g : Geometry) (rows : Option Rows) (survey : DieSurvey) : Type 0 where
  pub known : Option (List ℕ)
  pub opened : IsFileOpened a path known
  pub seen : IfSome known (IsSurveyOf g rows survey)

-- the words name a geometry and rows, or all, and this is the survey
pub record HasSurvey (a : StoreAnswers) (words : SurveyWords) (g : Geometry) (rows : Option Rows) (survey : DieSurvey) : Type 0 where
  pub geometry_is : IsGeometryAt words.geometry.now g
  pub rows_are : AreRowsAt words.rows g rows
  pub seen : IsSurveyOfDump a words.dump.now g rows survey

-- the survey was printed
pub record ToldSurvey (a : StoreAnswers) (words : SurveyWords) (out printed : Option (List ℕ)) : Type 0 where
  pub g : Geometry
  pub rows : Option Rows
  pub survey : DieSurvey
  pub has : HasSurvey a words g rows survey
  pub told : Appends out printed (survey_text (form_of_showing words.showing) g rows survey)

-- why there is no survey: the dump was not opened, or not taken as a whole
abbrev pub IsDumpUnsurveyed : StoreAnswers → Geometry → List ℕ → LabFault → Type 0
IsDumpUnsurveyed a g path told = IsUnread a path told ⊎ IsDumpUntaken a g path told

-- The first of this order: the geometry; the rows; memory; the dump.
abbrev pub IsUnseen : StoreAnswers → SurveyWords → (opens opened : Option ℕ) → LabFault → Type 0
IsUnseen a words opens opened told =
    IsNoGeometry words.geometry.now told
    ⊎ ((g : Geometry) × IsGeometryAt words.geometry.now g × (AreNoRows words.rows g told
    ⊎ ((rows : Option Rows) × AreRowsAt words.rows g rows × (IsUnroomed opens opened told ⊎ IsDumpUnsurveyed a g words.dump.now told))))

-- nothing was printed, for one of these reasons, or a beginning of the survey was
abbrev pub IsSurveyFault : StoreAnswers → SurveyWords → Option Store → Option Store → (opens opened : Option ℕ) → (broke : Bool) → Option (List ℕ) → Option (List ℕ) → LabFault → Type 0
IsSurveyFault a words before after opens opened broke out printed told =
    (LeavesAll before after out printed × IsUnseen a words opens opened told)
    ⊎ ((after ≡ before) × ((g : Geometry) × (rows : Option Rows) × (survey : DieSurvey) × HasSurvey a words g rows survey × IsHalfPrinted broke out printed (survey_text (form_of_showing words.showing) g rows survey) told))
