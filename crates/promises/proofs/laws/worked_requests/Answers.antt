use Rattle.promises.proofs.WorkedLemmas.{five, five_commands, five_out, refusals}
use Rattle.promises.proofs.laws.worked_requests.Goals as goal

pub returns : goal.returns
returns c = record { five = five; commands = five_commands; out = five_out; refusals = refusals }
