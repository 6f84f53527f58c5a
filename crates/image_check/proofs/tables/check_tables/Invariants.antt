use Rattle.std.proofs.Common.{◌≡◌, length}
use Rattle.page_layout.specs.Page.{Image}
use Rattle.image_check.specs.Surveyed.{SurveysTables}
use Rattle.image_check.proofs.TablesLemmas.{AreTaken}
use Rattle.image_check.proofs.tables.check_tables.Given as goal

abbrev pub invariant-loop-page : goal.invariant-loop-page
invariant-loop-page l = record {
  size : length l.table ≡ l.survey.geometry.blocks;
  taken : (image : Image) → SurveysTables l.survey.geometry image l.survey.newest.items l.survey.tables.items → AreTaken l.survey.geometry image l.page l.table;
}
