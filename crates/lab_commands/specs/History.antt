-- What the command `history` comes to.
use Rattle.std.specs.Prelude.{◌≡◌, ◌⊎◌, ℕ, List, Option, IfSome, Bool}
use Rattle.std.specs.Io.KnownBytes.{Appends}
use Rattle.page_layout.specs.declared.geometry.Geometry.{Geometry}
use Rattle.lab_dump.specs.declared.history.History.{History}
use Rattle.lab_dump.specs.History.{IsHistoryOf}
use Rattle.lab_commands.specs.Reports.{history_text}
use Rattle.lab_commands.specs.declared.words.HistoryWords.{HistoryWords}
use Rattle.lab_commands.specs.declared.text.LabFault.{LabFault}
use Rattle.lab_commands.specs.Files.{IsFileOpened, Store, StoreAnswers}
use Rattle.lab_commands.specs.Numbers.{IsNoSector, IsSectorAt}
use Rattle.lab_commands.specs.Survey.{IsDumpUnsurveyed}
use Rattle.lab_commands.specs.Undone.{IsGeometryAt, IsHalfPrinted, IsNoGeometry, IsUnroomed, LeavesAll, form_of_showing}

-- the history of this sector of a dump that reads so: where its bytes are known it is of the image that they are
pub record IsRecalled (a : StoreAnswers) (path : List ℕ) (g : Geometry) (sector : ℕ) (history : History) : Type 0 where
  pub known : Option (List ℕ)
  pub opened : IsFileOpened a path known
  pub recalled : IfSome known (IsHistoryOf g sector history)

-- the words name a geometry and a sector, and this is its history
pub record HasHistory (a : StoreAnswers) (words : HistoryWords) (g : Geometry) (history : History) : Type 0 where
  pub sector : ℕ
  pub geometry_is : IsGeometryAt words.geometry.now g
  pub sector_is : IsSectorAt words.sector.now g sector
  pub recalled : IsRecalled a words.dump.now g sector history

-- the history was printed
pub record ToldHistory (a : StoreAnswers) (words : HistoryWords) (out printed : Option (List ℕ)) : Type 0 where
  pub g : Geometry
  pub history : History
  pub has : HasHistory a words g history
  pub told : Appends out printed (history_text (form_of_showing words.showing) g history.pages.items history.unsound)

-- The first of this order: the geometry; the sector; memory; the dump.
abbrev pub IsHistoryUntold : StoreAnswers → HistoryWords → (opens opened : Option ℕ) → LabFault → Type 0
IsHistoryUntold a words opens opened told =
    IsNoGeometry words.geometry.now told
    ⊎ ((g : Geometry) × IsGeometryAt words.geometry.now g × (IsNoSector words.sector.now g told
    ⊎ ((sector : ℕ) × IsSectorAt words.sector.now g sector × (IsUnroomed opens opened told ⊎ IsDumpUnsurveyed a g words.dump.now told))))

-- nothing was printed, for one of these reasons, or a beginning of the history was
abbrev pub IsHistoryFault : StoreAnswers → HistoryWords → Option Store → Option Store → (opens opened : Option ℕ) → (broke : Bool) → Option (List ℕ) → Option (List ℕ) → LabFault → Type 0
IsHistoryFault a words before after opens opened broke out printed told =
    (LeavesAll before after out printed × IsHistoryUntold a words opens opened told)
    ⊎ ((after ≡ before) × ((g : Geometry) × (history : History) × HasHistory a words g history × IsHalfPrinted broke out printed (history_text (form_of_showing words.showing) g history.pages.items history.unsound) told))
