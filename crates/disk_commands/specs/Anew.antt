-- HOW THE DEVICE OF A DISK IS OPENED ANEW, where its file was full.
use Rattle.std.specs.Prelude.{◌+◌, ◌*◌, ℕ, min, nat_le, if◌then◌else◌}
use Rattle.page_layout.specs.Geometry.{waiting_at}
use Rattle.disk_commands.specs.declared.shapes.DiskShape.{DiskShape}

-- AS MANY SECTORS AS MAY BE STALE at a moment: all that there are; of a disk of more sectors than a cache may have entries, as many as its cache has, those that wait, and the pages of two blocks
abbrev pub most_stale : DiskShape → ℕ
most_stale s = if nat_le s.geometry.sectors 65536 then s.geometry.sectors else min (s.cache + (waiting_at s.geometry s.share + s.geometry.pages * 2)) 65536
