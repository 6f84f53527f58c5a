use Rattle.disk_server.proofs.Starting.{started_disk}
use Rattle.disk_server.proofs.device_disk.DeviceDisk.start.Goals as goal

pub invariant_of-result : goal.invariant_of-result
invariant_of-result g c = started_disk g.N.PageSource.view c.in_ok-device.device c.args.nand (g.N.PageSource.view.flash c.args.nand).geometry c.args.share c.args.accepted
    c.in_ok-device.ensures.device c.in_ok-device.ensures.nand c.in_ok-device.ensures.begun c.in_ok-device.ensures.truth c.requires.accepted
