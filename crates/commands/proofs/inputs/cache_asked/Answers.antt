use Rattle.std.proofs.Common.{inl, inr, arith}
use Rattle.std.proofs.lemmas.Bool.Decides.{nat_tests}
use Rattle.std.proofs.lemmas.Result.{err_from_is_err_and}
use Rattle.commands.proofs.WordLemmas.{unasked}
use Rattle.commands.proofs.inputs.cache_asked.Goals as goal
use Rattle.commands.proofs.inputs.cache_asked.Goals.{then-capacity-eq0-via-then-capacity-eq0}
use Rattle.commands.proofs.inputs.cache_asked.Goals.{then-capacity-eq0-via-else-capacity-eq0+then-capacity-gt-MOST_CAPACITY}

pub returns-in_err-asked : goal.returns-in_err-asked
returns-in_err-asked c =
    let p = err_from_is_err_and c.from_residual.result c.from_residual.ensures.1 in
    rw (p.1, p.2) (record { ok = tt; fault = unasked c.args.words.now _ c.in_err-asked.ensures.fault })

pub returns-then-capacity-eq0 : goal.returns-then-capacity-eq0
returns-then-capacity-eq0 c =
    let asked = c.in_ok-asked.asked in
    let its = c.in_ok-asked.ensures.ok in
    record {
      ok = tt;
      fault = (
        its.numbers,
        asked.geometry,
        asked.number,
        its.spelled,
        its.number_is,
        its.valid,
        elim c.then-capacity-eq0.branch [
          | then-capacity-eq0-via-then-capacity-eq0 w ↦ inl (grind (arith, nat_tests))
          | then-capacity-eq0-via-else-capacity-eq0+then-capacity-gt-MOST_CAPACITY w ↦ inr (grind (arith, nat_tests))
        ],
      );
    }

pub returns : goal.returns
returns c =
    let its = c.in_ok-asked.ensures.ok in
    record {
      ok = record { numbers = its.numbers; geometry = its.spelled; capacity_is = its.number_is; valid = its.valid; least = grind (arith, nat_tests); most = grind (arith, nat_tests) };
      fault = tt;
    }
