-- The memory of a run, which is taken before the dump is opened.
use Rattle.std.specs.Prelude.{◌≡◌, ◌≤◌, [], length}
use Rattle.std.specs.Vec.{vec_capacity}
use Rattle.page_layout.specs.declared.geometry.Geometry.{Geometry}
use Rattle.page_layout.specs.Geometry.{page_bytes, row_count}
use Rattle.lab_dump.specs.Rooms.{HasPageRoom}
use Rattle.lab_correct.specs.declared.correct.CorrectRoom.{CorrectRoom}

-- a page of the chip has room as it is read, one without its codes as it is written, and each row in the list, which is empty
pub record IsCorrectRoom (g chip : Geometry) (room : CorrectRoom) : Type 0 where
  pub page : HasPageRoom chip room.body.items room.outer.items
  pub scratch : length room.scratch.items ≡ page_bytes g
  pub none : room.losses.items ≡ []
  pub places : row_count chip ≤ vec_capacity room.losses
