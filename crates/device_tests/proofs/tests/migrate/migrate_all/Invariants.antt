use Rattle.ftl_device.specs.Device.{IsDevice}
use Rattle.device_tests.proofs.tests.migrate.migrate_all.Given as goal

abbrev pub invariant-loop : goal.invariant-loop
invariant-loop g l = IsDevice g.N.PageSource.view.flash l.device
