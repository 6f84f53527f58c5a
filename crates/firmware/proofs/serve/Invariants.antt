use Rattle.ftl_device.specs.Device.{IsDevice}
use Rattle.firmware.proofs.serve.Given as goal

abbrev pub invariant-loop-request : goal.invariant-loop-request
invariant-loop-request g l = IsDevice g.N.PageSource.view.flash l.device
