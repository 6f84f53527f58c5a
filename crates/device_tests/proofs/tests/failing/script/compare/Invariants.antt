use Rattle.ftl_device.specs.Device.{IsDevice}
use Rattle.device_tests.proofs.tests.failing.script.compare.Given as goal

abbrev pub invariant-loop-sector : goal.invariant-loop-sector
invariant-loop-sector g l = IsDevice g.N.PageSource.view.flash l.device
