use Rattle.die_laws.proofs.NameLemmas.{named_all, named_up_to}
use Rattle.die_laws.proofs.named_bad_laws.Goals as goal

pub returns : goal.returns
returns c = record { all = named_all; stops = named_up_to }
