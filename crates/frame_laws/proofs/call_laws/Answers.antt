use Rattle.frame_laws.proofs.CallLemmas.{asked, call_word}
use Rattle.frame_laws.proofs.call_laws.Goals as goal

pub returns : goal.returns
returns g c = record { asked = asked; told = call_word g.D.Disk.contents g.D.Disk.honest g.D.Disk.calm g.D.Disk.does }
