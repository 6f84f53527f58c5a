-- Room for a disk, and the disk that was made there.
use Rattle.std.specs.Prelude.{◌≡◌, ℕ, ℤ, Option, Some, None}
use Rattle.std.specs.Borrow.{Fml, full_share}
use Rattle.std.specs.Ptr.{Ptr, lies_at, uninit_at}
use Rattle.ftl_disk.specs.Disk.{Opens}
use Rattle.ftl_disk.specs.Plans.{IsUnplanned}
use Rattle.ftl_disk.specs.declared.disk.FtlDisk.{FtlDisk}
use Rattle.ftl_disk.specs.declared.shape.Shape.{Shape}
use Rattle.ftl_disk.specs.contracts.disk.FtlDisk.{the_row as disk_row}

-- the disk, or memory for one, whatever it holds now
abbrev pub room_or_disk : Ptr → Option FtlDisk → Fml
room_or_disk p None = uninit_at disk_row p
room_or_disk p (Some d) = lies_at disk_row full_share p d

-- AN OPEN: 0 and a disk of this shape, over these descriptors; or the number of the first limit that the shape breaks, and the room
abbrev pub IsDiskOpened : Shape → (input output : ℤ) → (number : ℕ) → Option FtlDisk → Type 0
IsDiskOpened shape input output number None = IsUnplanned shape number
IsDiskOpened shape input output number (Some d) = (number ≡ 0) × Opens shape input output d
