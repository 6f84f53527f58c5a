-- The memory of a search for all geometries, which is taken before the dump is opened.
use Rattle.std.specs.Prelude.{◌≡◌, ◌≤◌, [], length}
use Rattle.std.specs.Vec.{vec_capacity}
use Rattle.lab_dump.specs.Rooms.{IsFitRoom}
use Rattle.lab_correct.specs.declared.found.FoundRoom.{FoundRoom}

-- the largest page has room twice, and as many geometries as may fit of each sort; none was found yet
pub record IsFoundRoom (room : FoundRoom) : Type 0 where
  pub fits : IsFitRoom room.fits
  pub raw : length room.raw.items ≡ 4352
  pub page : length room.page.items ≡ 4352
  pub none_coded : room.coded.items ≡ []
  pub coded_places : 11025 ≤ vec_capacity room.coded
  pub none_found : room.found.items ≡ []
  pub found_places : 22050 ≤ vec_capacity room.found
