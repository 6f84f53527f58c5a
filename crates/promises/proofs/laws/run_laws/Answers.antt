use Rattle.promises.proofs.RunLemmas.{one_more_event, run_join, last, one_log, answers, stays_read_only, each, logs}
use Rattle.promises.proofs.laws.run_laws.Goals as goal

pub returns : goal.returns
returns c = record { one_more = one_more_event; join = run_join; last = last; one_log = one_log; answers = answers; read_only = stays_read_only; each = each; logs = logs }
