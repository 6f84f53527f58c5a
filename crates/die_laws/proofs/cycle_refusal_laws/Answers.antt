use Rattle.die_laws.proofs.RefusalLemmas.{uncounted, kept_buffer}
use Rattle.die_laws.proofs.cycle_refusal_laws.Goals as goal

pub returns : goal.returns
returns c = record { uncounted = uncounted; kept = kept_buffer }
