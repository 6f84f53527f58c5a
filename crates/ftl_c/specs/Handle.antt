-- A disk at a handle.
use Rattle.std.specs.Borrow.{Lends, MutBor, Fml}
use Rattle.ftl_disk.specs.declared.disk.FtlDisk.{FtlDisk}
use Rattle.ftl_disk.specs.contracts.disk.FtlDisk.{the_row as disk_row}
use Rattle.ftl_c.specs.declared.handle.Handle.{Handle}
use Rattle.ftl_c.specs.contracts.handle.Handle.{the_row}

abbrev pub with_disk : Handle → FtlDisk → Handle
with_disk h d = record h { disk = d }

-- the handle's disk ends as it is left behind r
abbrev pub LendsDisk : MutBor Handle → MutBor FtlDisk → Fml
LendsDisk s r = Lends the_row disk_row s r (with_disk s.now)
