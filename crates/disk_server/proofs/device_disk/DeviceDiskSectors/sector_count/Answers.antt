use Rattle.std.proofs.Common.{◌≡◌, ◌*◌, length, subst}
use Rattle.disk_server.specs.Disk.{contents_of}
use Rattle.disk_server.proofs.Holding.{long}
use Rattle.disk_server.proofs.device_disk.DeviceDiskSectors.sector_count.Goals as goal

pub returns-clause-whole : goal.returns-clause-whole
returns-clause-whole g c =
    subst (λ d. length (contents_of g.N.PageSource.view d).bytes ≡ d.engine.geometry.sectors * d.engine.geometry.data_bytes) c.self.view_is
    (long g.N.PageSource.view c.self.inside.device c.self.invariant)
