use Rattle.std.proofs.Common.{◌≡◌, ◌+◌, drop}
use Rattle.nand_die.specs.Faults.{fault_at}
use Rattle.nand_die.proofs.strike.next_strike.Given as goal

abbrev pub invariant-loop-fault : goal.invariant-loop-fault
invariant-loop-fault l = fault_at (drop l.fault-index l.faults) (l.asked + 1) ≡ fault_at l.faults (l.asked + 1)
