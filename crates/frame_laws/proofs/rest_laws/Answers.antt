use Rattle.frame_laws.proofs.RestLemmas.{rest_word}
use Rattle.frame_laws.proofs.rest_laws.Goals as goal

pub returns : goal.returns
returns g c = rest_word g.D.Disk.contents g.D.Disk.honest g.D.Disk.calm g.D.Disk.rests
