use Rattle.std.proofs.Common.{◌≡◌, ◌∙◌, List, ℕ, Some}
use Rattle.lab_shapes.specs.Planes.{IsTurnedOf}
use Rattle.lab_shapes.proofs.PlaneLemmas.{for_numbers, turned_map}
use Rattle.lab_shapes.proofs.planes.find_planes.Goals as goal

pub returns-clause-turned : goal.returns-clause-turned
returns-clause-turned g c =
    turned_map _ (λ turned. (all : List ℕ) → g.D.Dump.bytes c.args.dump.now ≡ Some all → IsTurnedOf all c.args.fit.now turned) c.compare_turns.result
    (λ turned h all told. for_numbers all c.args.fit.now c.in-Ok.geometry turned c.in-Ok.ensures.ok (h all (c.in_ok-size.ensures.same ∙ told) (c.in_ok-size.ensures.size all told))) c.compare_turns.ensures.turned
