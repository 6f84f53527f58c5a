use Rattle.ftl_device.proofs.MountableLemmas.{stale_law, restart_law}
use Rattle.ftl_device.proofs.laws.restart_laws.Goals as goal

pub returns-clause-stale : goal.returns-clause-stale
returns-clause-stale c = stale_law

pub returns-clause-restart : goal.returns-clause-restart
returns-clause-restart c = restart_law
