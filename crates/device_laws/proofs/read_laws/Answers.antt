use Rattle.device_laws.proofs.DeviceLemmas.{keeps_rows, refused_read, read_faults}
use Rattle.device_laws.proofs.read_laws.Goals as goal

pub returns-clause-rows : goal.returns-clause-rows
returns-clause-rows c = keeps_rows

pub returns-clause-refused : goal.returns-clause-refused
returns-clause-refused c = refused_read

pub returns-clause-faults : goal.returns-clause-faults
returns-clause-faults c = read_faults
