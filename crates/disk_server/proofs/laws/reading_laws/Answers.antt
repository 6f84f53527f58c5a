use Rattle.disk_server.proofs.ReadingLemmas.{only_reads}
use Rattle.disk_server.proofs.laws.reading_laws.Goals as goal

pub returns : goal.returns
returns g c = only_reads g.S.Sectors.reads
