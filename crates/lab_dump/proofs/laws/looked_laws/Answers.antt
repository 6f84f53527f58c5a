use Rattle.lab_dump.proofs.FitLawLemmas.{page_law, looked_in, looked_rise, looked_all}
use Rattle.lab_dump.proofs.laws.looked_laws.Goals as goal

pub returns : goal.returns
returns c = record { page = page_law; looked = looked_in; rise = looked_rise; all = looked_all }
