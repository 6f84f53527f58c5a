-- What a pass over the pages notes.
use Rattle.std.specs.Prelude.{◌≡◌, ℕ, length, take}
use Rattle.page_layout.specs.declared.geometry.Geometry.{Geometry}
use Rattle.page_layout.specs.Geometry.{key_count, table_pages}
use Rattle.page_layout.specs.Page.{Image}
use Rattle.image_check.specs.Room.{IsScratch}
use Rattle.image_check.specs.Surveyed.{IsSized, IsSurvey}
use Rattle.lab_dump.specs.declared.seeing.Seeing.{Seeing}
use Rattle.lab_dump.specs.Count.{AreFew, page_counts_of}
use Rattle.lab_dump.specs.Keys.{HasFormed}
use Rattle.lab_dump.specs.Doubting as doubting
use Rattle.lab_dump.specs.Doubting.{IsDoubting}

-- its parts have the sizes of the geometry, whatever the pages were
pub record SeeingStands (g : Geometry) (rows : ℕ) (s : Seeing) : Type 0 where
  pub geometry_is : s.survey.geometry ≡ g
  pub sized : IsSized g rows s.survey
  pub counts : AreFew rows s.counts
  pub formed : length s.formed.items ≡ table_pages g
  pub doubting : doubting.DoubtingStands g rows s.doubting
  pub keys : length s.keys.items ≡ key_count g
  pub scratch : IsScratch g s.scratch
  pub table : length s.table ≡ g.blocks

-- it has what the first rows of the image show
pub record ShowsDump (g : Geometry) (rows : ℕ) (image : Image) (s : Seeing) : Type 0 where
  pub survey : IsSurvey g image rows s.survey
  pub counts : s.counts ≡ page_counts_of g (take rows image)
  pub formed : HasFormed g image rows s.formed.items
  pub doubting : IsDoubting g rows image s.doubting
