-- The memory of a search, which is taken before the dump is opened.
use Rattle.std.specs.Prelude.{◌≡◌, None, length}
use Rattle.lab_shapes.specs.declared.find.ShapeRoom.{ShapeRoom}

-- the largest page has room as it stands in order, and an area with a byte before it and one behind it as it is read
pub record HasRoomForLargestPage (room : ShapeRoom) : Type 0 where
  pub page : length room.page.items ≡ 4352
  pub raw : length room.raw.items ≡ 4354

-- and nothing was found yet
pub record IsShapeRoom (room : ShapeRoom) : Type 0 where
  pub whole : HasRoomForLargestPage room
  pub none : room.best ≡ None
