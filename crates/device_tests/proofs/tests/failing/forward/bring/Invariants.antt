use Rattle.ftl_device.specs.Device.{IsDevice}
use Rattle.device_tests.proofs.tests.failing.forward.bring.Given as goal

abbrev pub invariant-loop-count : goal.invariant-loop-count
invariant-loop-count g l = IsDevice g.N.PageSource.view.flash l.device
