use Rattle.std.proofs.lemmas.Result.{err_from_is_err_and}
use Rattle.commands.proofs.WordLemmas.{no_count, no_die, no_sizes}
use Rattle.commands.proofs.inputs.numbered_by.Goals as goal

pub returns-in_err-numbers : goal.returns-in_err-numbers
returns-in_err-numbers c =
    let its = c.in_err-numbers.ensures in
    let p = err_from_is_err_and c.from_residual.result c.from_residual.ensures.1 in
    rw (p.1, p.2) (record { ok = tt; fault = no_sizes c.args.sizes.now c.args.count.now _ its.fault its.none })

pub returns-in_err-number : goal.returns-in_err-number
returns-in_err-number c =
    let its = c.in_err-number.ensures in
    let p = err_from_is_err_and c.from_residual-in_err-number.result c.from_residual-in_err-number.ensures.1 in
    rw (p.1, p.2) (record { ok = tt; fault = no_count c.args.sizes.now c.args.count.now _ _ c.in_ok-numbers.ensures.ok its.fault its.none })

pub returns-in_err-geometry : goal.returns-in_err-geometry
returns-in_err-geometry c =
    let p = err_from_is_err_and c.from_residual-in_err-geometry.result c.from_residual-in_err-geometry.ensures.1 in
    rw (p.1, p.2) (record { ok = tt; fault = no_die c.args.sizes.now c.args.count.now _ _ _ c.in_ok-numbers.ensures.ok c.in_ok-number.ensures.ok c.in_err-geometry.ensures.fault })

pub returns : goal.returns
returns c = record {
  ok = record { numbers = c.in_ok-numbers.numbers; spelled = c.in_ok-numbers.ensures.ok; number_is = c.in_ok-number.ensures.ok; valid = c.in_ok-geometry.ensures.ok };
  fault = tt;
}
