-- The memory of each run over a dump, which is taken before the dump is opened.
use Rattle.std.specs.Prelude.{◌≡◌, ◌≤◌, ℕ, List, [], length, replicate}
use Rattle.std.specs.Vec.{vec_capacity}
use Rattle.page_layout.specs.declared.geometry.Geometry.{Geometry}
use Rattle.page_layout.specs.Geometry.{row_count}
use Rattle.page_layout.specs.Page.{Image}
use Rattle.page_layout.specs.Array.{zeros}
use Rattle.lab_dump.specs.declared.held.Held.TheVariants.{Never}
use Rattle.lab_dump.specs.declared.array.ArrayRoom.{ArrayRoom}
use Rattle.lab_dump.specs.declared.compare.CompareRoom.{CompareRoom}
use Rattle.lab_dump.specs.declared.find.FitRoom.{FitRoom}
use Rattle.lab_dump.specs.declared.history.HistoryRoom.{HistoryRoom}
use Rattle.lab_dump.specs.declared.nearest.NearestRoom.{NearestRoom}
use Rattle.lab_dump.specs.declared.survey.SurveyRoom.{SurveyRoom}
use Rattle.lab_dump.specs.Doubting as doubting
use Rattle.lab_dump.specs.Doubting.{IsDoubting}
use Rattle.lab_dump.specs.Noted as noted

-- a page of this geometry has room in these
pub record HasPageRoom (g : Geometry) (body spare : List ℕ) : Type 0 where
  pub body_size : length body ≡ g.data_bytes
  pub spare_size : length spare ≡ g.spare_bytes

-- of no more rows than have passed there is one in a list, and the list has room for one of each row
pub record HasRowRoom {A : Type 0} (all passed : ℕ) (items : List A) (capacity : ℕ) : Type 0 where
  pub few : length items ≤ passed
  pub room : all ≤ capacity

-- nothing was seen yet of a die of this geometry
pub record IsSurveyRoom (g : Geometry) (room : SurveyRoom) : Type 0 where
  pub page : HasPageRoom g room.body.items room.spare.items
  pub stands : noted.SeeingStands g 0 room.seeing
  pub shows : (image : Image) → noted.ShowsDump g 0 image room.seeing

-- no sector is held yet
pub record IsArrayRoom (g : Geometry) (room : ArrayRoom) : Type 0 where
  pub page : HasPageRoom g room.body.items room.spare.items
  pub held : room.held.items ≡ replicate g.sectors Never
  pub blank : room.zeros.items ≡ zeros g
  pub stands : doubting.DoubtingStands g 0 room.doubting
  pub shows : (image : Image) → IsDoubting g 0 image room.doubting

-- no page is listed, and each row has room in the list
pub record IsHistoryRoom (g : Geometry) (room : HistoryRoom) : Type 0 where
  pub page : HasPageRoom g room.body.items room.spare.items
  pub none : room.pages.items ≡ []
  pub places : row_count g ≤ vec_capacity room.pages

-- no page has passed, and there is a place for each sector
pub record IsCompareRoom (g : Geometry) (room : CompareRoom) : Type 0 where
  pub page : HasPageRoom g room.body.items room.spare.items
  pub stands : doubting.DoubtingStands g 0 room.doubting
  pub shows : (image : Image) → IsDoubting g 0 image room.doubting
  pub lost : length room.lost.items ≡ g.sectors

-- the largest page has room, and as many geometries as may fit; none was found yet
pub record IsFitRoom (room : FitRoom) : Type 0 where
  pub page : length room.page.items ≡ 4352
  pub none : room.fits.items ≡ []
  pub places : 11025 ≤ vec_capacity room.fits

-- the bytes between two reads have room, with a spare area behind them
abbrev pub IsNearestRoom : NearestRoom → Type 0
IsNearestRoom room = length room.bytes.items ≡ 65575
