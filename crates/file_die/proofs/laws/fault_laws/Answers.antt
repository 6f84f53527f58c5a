use Rattle.file_die.specs.Bytes.{ReadInterrupted, WriteInterrupted}
use Rattle.file_die.proofs.FaultLawLemmas.{ended_law, whole_read_law, whole_write_law, taken_law, own_fault_law, full_law, changed_law, first_fault_law, row_read_law, synced_law, refused_law, patient_law}
use Rattle.file_die.proofs.laws.fault_laws.Goals as goal

pub returns-clause-ended : goal.returns-clause-ended
returns-clause-ended g c = ended_law g.F.ByteFile.gave

pub returns-clause-whole : goal.returns-clause-whole
returns-clause-whole g c = whole_read_law

pub returns-clause-taken : goal.returns-clause-taken
returns-clause-taken g c = taken_law g.F.ByteFile.wrote

pub returns-clause-whole_write : goal.returns-clause-whole_write
returns-clause-whole_write g c = whole_write_law

pub returns-clause-own : goal.returns-clause-own
returns-clause-own g c = own_fault_law g.F.ByteFile.wrote

pub returns-clause-full : goal.returns-clause-full
returns-clause-full g c = full_law g.F.ByteFile.wrote

pub returns-clause-changed : goal.returns-clause-changed
returns-clause-changed g c = changed_law g.F.ByteFile.wrote

pub returns-clause-first : goal.returns-clause-first
returns-clause-first g c = first_fault_law g.F.ByteFile.wrote

pub returns-clause-read : goal.returns-clause-read
returns-clause-read g c = row_read_law g.F.ByteFile.gave

pub returns-clause-synced : goal.returns-clause-synced
returns-clause-synced g c = synced_law g.F.ByteFile.refused

pub returns-clause-refused : goal.returns-clause-refused
returns-clause-refused g c = refused_law g.F.ByteFile.refused

pub returns-clause-patient_reads : goal.returns-clause-patient_reads
returns-clause-patient_reads g c = patient_law (ReadInterrupted g.F.ByteFile.gave)

pub returns-clause-patient_writes : goal.returns-clause-patient_writes
returns-clause-patient_writes g c = patient_law (WriteInterrupted g.F.ByteFile.wrote)
