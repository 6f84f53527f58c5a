use Rattle.nand_die.proofs.BusLemmas.{garbled_die_law, fused_die_law}
use Rattle.nand_die.proofs.laws.bus_laws.Goals as goal

pub returns-clause-garbled : goal.returns-clause-garbled
returns-clause-garbled c = garbled_die_law

pub returns-clause-fused : goal.returns-clause-fused
returns-clause-fused c = fused_die_law
