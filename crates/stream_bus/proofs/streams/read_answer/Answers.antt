use Rattle.std.proofs.Common.{◌≡◌, rules}
use Rattle.std.proofs.lemmas.Result.{err_from_is_err_and}
use Rattle.stream_bus.proofs.StreamLemmas.{part_behind}
use Rattle.stream_bus.proofs.streams.read_answer.Goals as goal

pub returns-in_err-fill_all-clause-read : goal.returns-in_err-fill_all-clause-read
returns-in_err-fill_all-clause-read g c =
    let p = err_from_is_err_and c.from_residual-in_err-fill_all.result c.from_residual-in_err-fill_all.ensures.1 in
    let zero : c.in_ok-status.status ≡ 0 = search rules in
    rw p.1 (part_behind _ _ _ c.in_ok-status.status _ zero c.in_ok-status.ensures.read c.in_err-fill_all.ensures.read)
