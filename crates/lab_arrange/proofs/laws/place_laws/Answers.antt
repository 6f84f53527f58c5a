use Rattle.lab_arrange.proofs.OnceLemmas.{once_law}
use Rattle.lab_arrange.proofs.TripLemmas.{round_trip}
use Rattle.lab_arrange.proofs.laws.place_laws.Goals as goal

pub returns-clause-once : goal.returns-clause-once
returns-clause-once c = once_law

pub returns-clause-round_trip : goal.returns-clause-round_trip
returns-clause-round_trip c = round_trip
