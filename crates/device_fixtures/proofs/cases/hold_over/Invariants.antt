use Rattle.ftl_device.specs.Device.{IsDevice}
use Rattle.device_fixtures.proofs.cases.hold_over.Given as goal

abbrev pub invariant-loop-nth : goal.invariant-loop-nth
invariant-loop-nth g l = IsDevice g.N.PageSource.view.flash l.device
