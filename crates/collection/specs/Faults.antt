-- The faults of an engine's calls by their numbers.
use Rattle.std.specs.Prelude.{ℕ}
use Rattle.collection.specs.declared.fault.EngineFault.{EngineFault}
use Rattle.collection.specs.declared.fault.EngineFault.TheVariants.{ReadOnly, SequenceSpent, Damaged, Bus}

abbrev pub engine_fault_number : EngineFault → ℕ
engine_fault_number ReadOnly = 2
engine_fault_number SequenceSpent = 3
engine_fault_number Damaged = 5
engine_fault_number Bus = 6
