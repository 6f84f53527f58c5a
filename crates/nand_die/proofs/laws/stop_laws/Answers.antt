use Rattle.nand_die.proofs.StopLemmas.{calm_law, stopped_law, room_law}
use Rattle.nand_die.proofs.laws.stop_laws.Goals as goal

pub returns-clause-calm : goal.returns-clause-calm
returns-clause-calm c = calm_law

pub returns-clause-stopped : goal.returns-clause-stopped
returns-clause-stopped c = stopped_law

pub returns-clause-room : goal.returns-clause-room
returns-clause-room c = room_law
