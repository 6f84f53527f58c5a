use Rattle.std.proofs.Common.{◌≡◌, true, Some, refl, rules}
use Rattle.nbd_stream.specs.Tasks.{asks_change}
use Rattle.nbd_stream.proofs.ThroughLemmas.{not_both}
use Rattle.nbd_stream.proofs.transmission.rest_after.Goals as goal

pub returns-then-is_ok_and-clause-rests : goal.returns-then-is_ok_and-clause-rests
returns-then-is_ok_and-clause-rests g c =
    let asks : asks_change c.args.asked ≡ true = search rules in
    (Some c.rest.result, λ change. refl, (asks, c.rest.ensures.idles, c.rest.ensures.rests))

pub returns-then-is_ok_and-clause-none : goal.returns-then-is_ok_and-clause-none
returns-then-is_ok_and-clause-none g c =
    let asks : asks_change c.args.asked ≡ true = search rules in
    λ not. (let no : ⊥ = not_both _ asks not in absurd no)
