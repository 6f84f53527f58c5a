-- The survey as a whole.
use Rattle.std.specs.Prelude.{◌≡◌, ℕ, ◌*◌, ◌≤◌, All, List, length, IsPermutation, vec_capacity}
use Rattle.page_layout.specs.declared.geometry.Geometry.{Geometry}
use Rattle.page_layout.specs.Geometry.{key_count, table_pages, row_count}
use Rattle.page_layout.specs.Page.{Image}
use Rattle.page_layout.specs.Array.{marks}
use Rattle.certificate.specs.Spelling.{IsRowOf}
use Rattle.image_check.specs.declared.newest.Newest.{Newest}
use Rattle.image_check.specs.declared.survey.Survey.{Survey}
use Rattle.image_check.specs.Newest.{place_in}
use Rattle.image_check.specs.Survey.{HasNewest, HasOutside, pairs_below, HasLooks, HasTableBytes}

-- its parts have the sizes of the geometry, whatever the pages were
pub record IsSized (g : Geometry) (rows : ℕ) (s : Survey) : Type 0 where
  pub geometry_is : s.geometry ≡ g
  pub newest : length s.newest.items ≡ key_count g
  pub within : All (λ x. IsRowOf rows (place_in x)) s.newest.items
  pub looks : length s.looks.items ≡ g.blocks
  pub bounded : All (λ look. look.written ≤ rows) s.looks.items
  pub tables : length s.tables.items ≡ table_pages g * g.data_bytes
  pub few : length s.pairs.items ≤ rows
  pub room : row_count g ≤ vec_capacity s.pairs

-- it has what the first rows of the image show
pub record IsSurvey (g : Geometry) (image : Image) (rows : ℕ) (s : Survey) : Type 0 where
  pub newest : HasNewest g (marks image) rows s.newest.items
  pub outside : HasOutside g (marks image) rows s.outside
  pub pairs : s.pairs.items ≡ pairs_below (marks image) rows
  pub looks : HasLooks g image rows s.looks.items
  pub tables : HasTableBytes g image rows s.tables.items

-- it has what all rows of an image of the geometry show
pub record Surveys (g : Geometry) (image : Image) (s : Survey) : Type 0 where
  pub whole : length image ≡ row_count g
  pub survey : IsSurvey g image (row_count g) s

-- the survey's keys are those of the image
pub record SurveysKeys (g : Geometry) (image : Image) (items : List Newest) : Type 0 where
  pub whole : length image ≡ row_count g
  pub noted : HasNewest g (marks image) (row_count g) items

-- the survey's pairs are those of the image, in whatever order
pub record SurveysPairs (g : Geometry) (image : Image) (pairs : List (ℕ × ℕ)) : Type 0 where
  pub whole : length image ≡ row_count g
  pub moved : IsPermutation (pairs_below (marks image) (row_count g)) pairs

-- the survey's keys and the table pages that it keeps are those of the image
pub record SurveysTables (g : Geometry) (image : Image) (items : List Newest) (bytes : List ℕ) : Type 0 where
  pub whole : length image ≡ row_count g
  pub noted : HasNewest g (marks image) (row_count g) items
  pub kept : HasTableBytes g image (row_count g) bytes
