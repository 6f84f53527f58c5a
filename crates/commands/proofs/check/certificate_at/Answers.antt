use Rattle.std.proofs.Common.{inl}
use Rattle.std.proofs.lemmas.Result.{err_from_is_err_and}
use Rattle.commands.proofs.CheckLemmas.{claims, no_claim}
use Rattle.commands.proofs.check.certificate_at.Goals as goal

pub returns-in_err-written : goal.returns-in_err-written
returns-in_err-written g c =
    let p = err_from_is_err_and c.from_residual.result c.from_residual.ensures.1 in
    rw (p.1, p.2) (record { ok = tt; fault = inl c.in_err-written.ensures.fault; stores = c.in_err-written.ensures.stores; taken = c.in_err-written.ensures.taken })

pub returns : goal.returns
returns g c =
    let gives = g.F.FileStore.gives c.args.files.now in
    let its = c.in_ok-written.ensures in
    record {
      ok = claims gives c.args.path.now _ _ c.certificate_in.result its.ok c.deref.ensures.value c.certificate_in.ensures.ok;
      fault = no_claim gives c.args.path.now _ _ c.certificate_in.result its.ok c.deref.ensures.value c.certificate_in.ensures.fault;
      stores = its.stores;
      taken = its.taken;
    }
