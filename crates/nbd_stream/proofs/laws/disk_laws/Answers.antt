use Rattle.nbd_stream.proofs.DiskLemmas.{byte_law, read_back_law}
use Rattle.nbd_stream.proofs.RunLemmas.{done_law, kept_law, lasts_law, nothing_lost_law, set_law}
use Rattle.nbd_stream.proofs.laws.disk_laws.Goals as goal

pub returns : goal.returns
returns c = record {
  byte = byte_law;
  read_back = read_back_law;
  set = set_law;
  lasts = lasts_law;
  kept = kept_law;
  nothing_lost = nothing_lost_law;
  done = done_law;
}
