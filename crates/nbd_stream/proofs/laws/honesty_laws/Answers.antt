use Rattle.nbd_stream.proofs.UntilLemmas.{back_law, stays_law, until_law}
use Rattle.nbd_stream.proofs.laws.honesty_laws.Goals as goal

pub returns : goal.returns
returns g c = record {
  back = back_law g.D.Disk.contents g.D.Disk.honest g.D.Disk.calm g.D.Disk.does g.D.Disk.rests;
  stays = stays_law g.D.Disk.contents g.D.Disk.honest g.D.Disk.calm g.D.Disk.does g.D.Disk.rests;
  until = until_law g.D.Disk.contents g.D.Disk.honest g.D.Disk.calm g.D.Disk.does g.D.Disk.rests;
}
