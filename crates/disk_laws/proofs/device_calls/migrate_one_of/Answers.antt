use Rattle.std.proofs.Common.{inl, inr, subst, Err}
use Rattle.std.specs.Prelude.{Result}
use Rattle.promises.specs.Step.{Turn}
use Rattle.ftl_device.specs.Changes.{Upkeeps}
use Rattle.ftl_device.specs.Migrate.{ended}
use Rattle.disk_laws.proofs.device_calls.migrate_one_of.Goals as goal

pub returns : goal.returns
returns g c = record {
  faults = λ held stopped.
      record { disk = c.requires.disk; held = held; ends = inr (inl (subst (λ r. Upkeeps g.N.PageSource.view Turn c.args.device.now (ended r) c.migrate_one.new.self) stopped c.migrate_one.ensures.upkeeps)) };
}
