use Rattle.lab_dump.proofs.HistoryLemmas.{first_law, history_law}
use Rattle.lab_dump.proofs.history.history_laws.Goals as goal

pub returns : goal.returns
returns c = record { history = history_law; first = first_law }
