use Rattle.frame_laws.proofs.LinkLemmas.{exchange}
use Rattle.frame_laws.proofs.exchange_laws.Goals as goal

pub returns : goal.returns
returns g c =
    exchange (record { written = g.W.Write.contents; left = g.R.Read.remaining; write_fails = g.W.Outgoing.fails; read_fails = g.R.Incoming.fails; hands = g.W.Outgoing.hands })
