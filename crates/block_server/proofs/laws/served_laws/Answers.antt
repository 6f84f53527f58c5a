use Rattle.block_server.proofs.LawLemmas.{begun_image, begun_record, begun_counts, served_record, failed_call, served_law, back_law, unserved_law}
use Rattle.block_server.proofs.laws.served_laws.Goals as goal

pub returns-clause-image : goal.returns-clause-image
returns-clause-image g c = begun_image g.N.PageSource.view

pub returns-clause-told : goal.returns-clause-told
returns-clause-told g c = begun_record g.N.PageSource.view

pub returns-clause-records : goal.returns-clause-records
returns-clause-records g c = served_record g.N.PageSource.view

pub returns-clause-failed : goal.returns-clause-failed
returns-clause-failed g c = failed_call g.N.PageSource.view

pub returns-clause-counts : goal.returns-clause-counts
returns-clause-counts g c = begun_counts g.N.PageSource.view

pub returns-clause-served : goal.returns-clause-served
returns-clause-served g c = served_law g.N.PageSource.view

pub returns-clause-back : goal.returns-clause-back
returns-clause-back g c = back_law g.N.PageSource.view

pub returns-clause-unserved : goal.returns-clause-unserved
returns-clause-unserved g c = unserved_law g.N.PageSource.view
