use Rattle.ftl_device.specs.Device.{IsDevice}
use Rattle.device_fixtures.proofs.cases.hold_steps.Given as goal

abbrev pub invariant-loop-step : goal.invariant-loop-step
invariant-loop-step g l = IsDevice g.N.PageSource.view.flash l.device
