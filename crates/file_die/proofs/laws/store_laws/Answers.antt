use Rattle.file_die.proofs.StoreLemmas.{stays, read_back, cleared, load_law, sync_law, whole_run}
use Rattle.file_die.proofs.laws.store_laws.Goals as goal

pub returns-clause-stays : goal.returns-clause-stays
returns-clause-stays c = stays

pub returns-clause-read_back : goal.returns-clause-read_back
returns-clause-read_back c = read_back

pub returns-clause-cleared : goal.returns-clause-cleared
returns-clause-cleared c = cleared

pub returns-clause-load : goal.returns-clause-load
returns-clause-load c = load_law

pub returns-clause-sync : goal.returns-clause-sync
returns-clause-sync c = sync_law

pub returns-clause-whole : goal.returns-clause-whole
returns-clause-whole c = whole_run
