use Rattle.std.proofs.Common.{inr, refl}
use Rattle.disk_server.proofs.Holding.{parts}
use Rattle.disk_laws.proofs.device_calls.read_sector_of.Goals as goal

pub returns : goal.returns
returns g c = record {
  faults = λ held stopped.
      let its = parts g.N.PageSource.view.honest c.args.device.now held in
      record { disk = c.requires.disk; held = held; ends = inr (inr (c.args.sector, refl, c.read.ensures.cut its.0 its.1 stopped, c.read.ensures.asked)) };
}
