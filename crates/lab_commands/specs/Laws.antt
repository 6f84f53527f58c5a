-- What the texts of the reports come to, in words of the image that they are of.
use Rattle.std.specs.Prelude.{◌≡◌, ◌↔◌, ℕ, ◌+◌, ◌*◌, ◌<◌, ◌≤◌, ◌==◌, if◌then◌else◌, List, [], ◌∷◌, ◌++◌, length, take, count_by, codes, get_or, Bool, false, Some, None}
use Rattle.std.specs.Fmt.{decimal}
use Rattle.page_layout.specs.declared.geometry.Geometry.{Geometry}
use Rattle.page_layout.specs.declared.record.Key.TheVariants.{Sector, Translation, Table}
use Rattle.page_layout.specs.declared.record.Kind.TheVariants as kind
use Rattle.page_layout.specs.Block.{is_broken}
use Rattle.page_layout.specs.Geometry.{table_pages, translation_pages}
use Rattle.page_layout.specs.Page.{Image}
use Rattle.page_layout.specs.Sound.{is_erased_page, record_of}
use Rattle.lab_dump.specs.declared.doubts.Doubts.{Doubts}
use Rattle.lab_dump.specs.declared.history.SectorPage.{SectorPage}
use Rattle.lab_dump.specs.declared.survey.DieSurvey.{DieSurvey}
use Rattle.lab_dump.specs.Count.{is_of_kind}
use Rattle.lab_dump.specs.Doubts.{most_older}
use Rattle.lab_dump.specs.Keys.{key_state}
use Rattle.lab_dump.specs.Surveyed.{HasNoReason, IsSurveyed}
use Rattle.lab_commands.specs.declared.document.ReportForm.{ReportForm}
use Rattle.lab_commands.specs.declared.lines.Label.TheVariants as label
use Rattle.lab_commands.specs.declared.lines.Line.TheVariants as line
use Rattle.lab_commands.specs.declared.lines.Sort.TheVariants as sort
use Rattle.lab_commands.specs.declared.text.LabFault.{LabFault}
use Rattle.lab_commands.specs.Document.{text_below}
use Rattle.lab_commands.specs.Lines.{age_words, claim_words, key_line, last_line, moved_words, outside_line, page_line, repeated_line, table_line}
use Rattle.lab_commands.specs.Reports.{count_lines, first_table, keys_text, table_at}
use Rattle.lab_commands.specs.Text.{lab_exit_status, lab_fault_line}

-- ---- a survey

-- EACH LINE OF A KEY SAYS HOW THAT KEY STANDS IN THE IMAGE
abbrev pub SurveyedKeysLaw : Type 0
SurveyedKeysLaw = (form : ReportForm) (g : Geometry) (image : Image) (s : DieSurvey) → IsSurveyed g image s → keys_text form g s.keys.items s.formed.items
    ≡ text_below form (λ u. table_line u (key_state image (Table u)) (get_or s.formed.items u false)) (table_pages g)
    ++ (text_below form (λ n. key_line label.Sector n (key_state image (Sector n))) g.sectors
    ++ (text_below form (λ t. key_line label.Translation t (key_state image (Translation t))) (translation_pages g)
    ++ text_below form (λ u. key_line label.Table u (key_state image (Table u))) (table_pages g)))

-- THE COUNT OF EACH SORT IS THAT OF THE PAGES OF THAT SORT
abbrev pub SurveyedCountsLaw : Type 0
SurveyedCountsLaw = (g : Geometry) (image : Image) (s : DieSurvey) → IsSurveyed g image s → take 6 (count_lines s)
    ≡ Some (line.Pages sort.Data (count_by (λ p. is_of_kind kind.Sector (record_of p)) image)) ∷ Some (line.Pages sort.Trim (count_by (λ p. is_of_kind kind.Trim (record_of p)) image))
    ∷ Some (line.Pages sort.Translation (count_by (λ p. is_of_kind kind.Translation (record_of p)) image)) ∷ Some (line.Pages sort.Table (count_by (λ p. is_of_kind kind.Table (record_of p)) image))
    ∷ Some (line.Pages sort.Erased (count_by is_erased_page image)) ∷ Some (line.Pages sort.Unsound (count_by is_broken image)) ∷ []

-- none of the lines is there that begin with `reason`
pub record TellsNoReason (g : Geometry) (s : DieSurvey) : Type 0 where
  pub outside : outside_line s.counts.outside ≡ None
  pub repeated : repeated_line s.repeated ≡ None
  pub last : last_line s.counts.last ≡ None
  pub tables : (u : ℕ) → u < table_pages g → table_at s.keys.items (first_table g) s.formed.items u ≡ None

-- A SURVEY TELLS NO REASON JUST WHERE IT HAS NONE AGAINST A MOUNT
abbrev pub ReasonsToldLaw : Type 0
ReasonsToldLaw = (g : Geometry) (s : DieSurvey) → HasNoReason g s ↔ TellsNoReason g s

-- ---- what a dump leaves open

-- THE WHOLE ARRAY IS CLAIMED WHERE NO SECTOR MAY BE OLDER, OF THE SECTORS THAT ARE SHOWN ALONE WHERE PAGES ARE PAST THE LAST ONE; ELSE IT IS SAID AT MOST HOW MANY MAY BE
pub record ClaimLaw : Type 0 where
  pub whole : (d : Doubts) → most_older d ≡ 0 → d.outside ≡ 0 → d.rewritten ≡ 0
      → age_words d ≡ codes "unsound " ++ (decimal 0 ++ codes ": the array is that of every page that was programmed, if no page was lost behind the last one of its block")
  pub shown : (d : Doubts) → most_older d ≡ 0 → 0 < d.outside → claim_words d ≡ codes ": of these sectors the array is that of every page that was programmed"
  pub older : (d : Doubts) → 0 < most_older d → claim_words d ≡ codes ": at most " ++ (decimal (most_older d) ++ codes " sectors may be older than the last write")
  pub moved : (n : ℕ) → 0 < n → moved_words n ≡ codes ", nor a newest one in a rewritten block"

-- ---- the others

-- a page is told with its block
abbrev pub PageBlockLaw : Type 0
PageBlockLaw = (g : Geometry) (page : SectorPage) (block within : ℕ) → within < g.pages → page.row ≡ block * g.pages + within → page_line g page ≡ line.Page page block

-- the word that a line begins with where the exit status is this
abbrev pub status_word : ℕ → List ℕ
status_word status = if status == 1 then codes "refused " else (if status == 2 then codes "usage: " else codes "fault ")

-- THE EXIT STATUS IS 1, 2 OR 3, AND THE FIRST WORD OF THE LINE SAYS WHICH
pub record IsStatusOf (told : LabFault) (status : ℕ) : Type 0 where
  pub some : 1 ≤ status
  pub most : status ≤ 3
  pub word : take (length (status_word status)) (lab_fault_line told) ≡ status_word status

abbrev pub StatusLaw : Type 0
StatusLaw = (told : LabFault) → IsStatusOf told (lab_exit_status told)
