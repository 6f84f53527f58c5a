use Rattle.lab_dump.proofs.FitLemmas.{adds_one, possible_fit}
use Rattle.lab_dump.proofs.find.add_shape.Goals as goal

pub returns-clause-any : goal.returns-clause-any
returns-clause-any c =
    adds_one _ _ c.fit_of.result c.push_reserved.ensures.items (possible_fit c.in-Some.geometry c.args.sample c.args.told c.fit_of.result c.fit_of.ensures c.requires.some_sound c.requires.looked)
