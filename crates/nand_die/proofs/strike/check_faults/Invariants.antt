use Rattle.std.proofs.Common.{drop}
use Rattle.nand_die.specs.Faults.{ArePagesLeft, HasFirstWrong}
use Rattle.nand_die.specs.declared.fault.DieFault.{DieFault}
use Rattle.nand_die.proofs.strike.check_faults.Given as goal

abbrev pub invariant-loop-fault : goal.invariant-loop-fault
invariant-loop-fault l = record {
  fair : ArePagesLeft l.geometry (drop l.fault-index l.faults) → ArePagesLeft l.geometry l.faults;
  wrong : (why : DieFault) → HasFirstWrong l.geometry (drop l.fault-index l.faults) why → HasFirstWrong l.geometry l.faults why;
}
