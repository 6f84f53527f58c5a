use Rattle.ftl_device.specs.Device.{IsDevice}
use Rattle.device_tests.proofs.tests.failing.pairs.give_sixty.Given as goal

abbrev pub invariant-loop-i : goal.invariant-loop-i
invariant-loop-i g l = IsDevice g.N.PageSource.view.flash l.device
