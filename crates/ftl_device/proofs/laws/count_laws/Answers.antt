use Rattle.ftl_device.proofs.CountLemmas.{free_now_law, good_now_law, bad_now_law, short_law}
use Rattle.ftl_device.proofs.laws.count_laws.Goals as goal

pub returns-clause-free : goal.returns-clause-free
returns-clause-free c = free_now_law

pub returns-clause-good : goal.returns-clause-good
returns-clause-good c = good_now_law

pub returns-clause-bad : goal.returns-clause-bad
returns-clause-bad c = bad_now_law

pub returns-clause-short : goal.returns-clause-short
returns-clause-short c = short_law
