use Rattle.ftl_device.proofs.FlushLemmas.{fresh_law, anywhere_law, shown_bad_law, shown_wear_law}
use Rattle.ftl_device.proofs.laws.flushed_laws.Goals as goal

pub returns-clause-fresh : goal.returns-clause-fresh
returns-clause-fresh c = fresh_law

pub returns-clause-anywhere : goal.returns-clause-anywhere
returns-clause-anywhere c = anywhere_law

pub returns-clause-bad : goal.returns-clause-bad
returns-clause-bad c = shown_bad_law

pub returns-clause-wear : goal.returns-clause-wear
returns-clause-wear c = shown_wear_law
