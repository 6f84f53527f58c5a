use Rattle.ftl_device.proofs.StoppedLemmas.{quiet_stop, refused_stop, mounts_stop, answered_stays, quiet_cut, other_sector_cut}
use Rattle.ftl_device.proofs.laws.stopped_laws.Goals as goal

pub returns-clause-quiet : goal.returns-clause-quiet
returns-clause-quiet c = quiet_stop

pub returns-clause-refused : goal.returns-clause-refused
returns-clause-refused c = refused_stop

pub returns-clause-mounts : goal.returns-clause-mounts
returns-clause-mounts c = mounts_stop

pub returns-clause-stays : goal.returns-clause-stays
returns-clause-stays c = answered_stays

pub returns-clause-quiet_cut : goal.returns-clause-quiet_cut
returns-clause-quiet_cut c = quiet_cut

pub returns-clause-other_cut : goal.returns-clause-other_cut
returns-clause-other_cut c = other_sector_cut
