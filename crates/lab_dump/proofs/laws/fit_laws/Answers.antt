use Rattle.lab_dump.proofs.MemberLemmas.{fit_law, own_law}
use Rattle.lab_dump.proofs.OnceLemmas.{once_law}
use Rattle.lab_dump.proofs.laws.fit_laws.Goals as goal

pub returns : goal.returns
returns c = record { fit = fit_law; once = once_law; own = own_law }
