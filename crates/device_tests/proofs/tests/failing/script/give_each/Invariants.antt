use Rattle.ftl_device.specs.Device.{IsDevice}
use Rattle.device_tests.proofs.tests.failing.script.give_each.Given as goal

abbrev pub invariant-loop : goal.invariant-loop
invariant-loop g l = IsDevice g.N.PageSource.view.flash l.device
