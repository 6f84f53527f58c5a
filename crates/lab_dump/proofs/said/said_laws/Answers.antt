use Rattle.lab_dump.proofs.SaidLemmas.{newer_law, other_seal_law, said_law, spelled_law, was_law}
use Rattle.lab_dump.proofs.said.said_laws.Goals as goal

pub returns : goal.returns
returns c = record { was = was_law; seal = other_seal_law; spelled = spelled_law; newer = newer_law; said = said_law }
