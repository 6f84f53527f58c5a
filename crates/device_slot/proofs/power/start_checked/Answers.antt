use Rattle.device_slot.proofs.PowerLemmas.{not_source, is_source, of_checking}
use Rattle.device_slot.proofs.power.start_checked.Goals as goal

pub returns-in-Err-clause-fault : goal.returns-in-Err-clause-fault
returns-in-Err-clause-fault g c = record {
  only = of_checking c.in-Err.refusal _ c.in-Err.ensures.only c.in-Err.ensures.asked;
  shows = c.in-Err.ensures.err;
  same = λ ne. c.in-Err.ensures.same (not_source c.in-Err.refusal ne);
  rose = λ is. c.in-Err.ensures.rose (is_source c.in-Err.refusal is);
}
