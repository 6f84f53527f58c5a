use Rattle.disk_server.proofs.GuardedLemmas.{byte_law, read_law}
use Rattle.disk_server.proofs.laws.guard_laws.Goals as goal

pub returns-clause-byte : goal.returns-clause-byte
returns-clause-byte c = byte_law

pub returns-clause-read : goal.returns-clause-read
returns-clause-read c = read_law
