use Rattle.promises.proofs.ReplyLemmas.{may_answer, past, after_read_only, refuses}
use Rattle.promises.proofs.laws.reply_laws.Goals as goal

pub returns : goal.returns
returns c = record { may_answer = may_answer; past = past; after_read_only = after_read_only; refuses = refuses }
