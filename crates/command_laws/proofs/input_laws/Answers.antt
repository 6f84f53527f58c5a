use Rattle.command_laws.proofs.RefusalLemmas.{input_kept}
use Rattle.command_laws.proofs.input_laws.Goals as goal

pub returns : goal.returns
returns g c = record { kept = input_kept g.F.FileStore.gives }
