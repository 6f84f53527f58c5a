use Rattle.ftl_device.specs.Device.{IsDevice}
use Rattle.device_fixtures.proofs.cases.hold_spread.Given as goal

abbrev pub invariant-loop-sector : goal.invariant-loop-sector
invariant-loop-sector g l = IsDevice g.N.PageSource.view.flash l.device
