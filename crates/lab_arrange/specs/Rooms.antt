-- The memory of a run, which is taken before the dump is opened.
use Rattle.std.specs.Prelude.{◌≡◌, ◌+◌, length}
use Rattle.page_layout.specs.declared.geometry.Geometry.{Geometry}
use Rattle.page_layout.specs.Geometry.{page_bytes}
use Rattle.lab_arrange.specs.declared.arrange.ArrangeRoom.{ArrangeRoom}

-- a page has room as it is written, and an area with a byte before it and one behind it as it is read
pub record IsArrangeRoom (g : Geometry) (room : ArrangeRoom) : Type 0 where
  pub page : length room.page.items ≡ page_bytes g
  pub raw : length room.raw.items ≡ page_bytes g + 2
