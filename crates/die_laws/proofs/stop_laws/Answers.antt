use Rattle.die_laws.proofs.DieLemmas.{unsound_stop}
use Rattle.die_laws.proofs.stop_laws.Goals as goal

pub returns : goal.returns
returns c = record { unsound = unsound_stop }
