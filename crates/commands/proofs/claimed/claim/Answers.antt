use Rattle.std.proofs.Common.{true, Some, inl, inr, refl, ◌∙◌}
use Rattle.std.proofs.lemmas.Result.{err_from_is_err_and}
use Rattle.commands.specs.Files.{IsOpened}
use Rattle.commands.specs.Serve.{checked_words}
use Rattle.commands.proofs.CheckLemmas.{has_files, uncertified}
use Rattle.commands.proofs.TakenLemmas as taken
use Rattle.commands.proofs.claimed.claim.Goals as goal

pub returns-in_err-asked : goal.returns-in_err-asked
returns-in_err-asked g c =
    let p = err_from_is_err_and c.from_residual.result c.from_residual.ensures.1 in
    rw (p.1, p.2) (record { ok = tt; fault = inl c.in_err-asked.ensures.fault; stores = refl; takes = (0, taken.none _) })

pub returns-in_err-bytes : goal.returns-in_err-bytes
returns-in_err-bytes g c =
    let p = err_from_is_err_and c.from_residual-in_err-bytes.result c.from_residual-in_err-bytes.ensures.1 in
    let asked = c.in_ok-asked.asked in
    rw (p.1, p.2) (record {
      ok = tt;
      fault = inr (inl (record { geometry = asked.geometry; capacity = asked.capacity; asked = c.in_ok-asked.ensures.ok; unread = c.in_err-bytes.ensures.fault }));
      stores = c.in_err-bytes.ensures.stores;
      takes = (1, c.in_err-bytes.ensures.taken);
    })

pub returns-in_err-certificate : goal.returns-in_err-certificate
returns-in_err-certificate g c =
    let p = err_from_is_err_and c.from_residual-in_err-certificate.result c.from_residual-in_err-certificate.ensures.1 in
    let gives = g.F.FileStore.gives c.args.files.now in
    let words = checked_words c.args.words.now in
    let its = c.in_ok-bytes.ensures in
    let known = Some c.in_ok-bytes.bytes.items in
    let opened : IsOpened gives true words.image.now known = record { bytes = its.ok; told = λ _. refl } in
    rw (p.1, p.2) (record {
      ok = tt;
      fault = inr (inr (uncertified gives _ true words _ _ known c.in_err-certificate.field-0.0 c.in_ok-asked.ensures.ok opened its.same c.in_err-certificate.ensures.fault));
      stores = c.in_err-certificate.ensures.stores ∙ its.stores;
      takes = (2, taken.two _ _ _ _ _ its.taken c.in_err-certificate.ensures.taken);
    })

pub returns : goal.returns
returns g c =
    let gives = g.F.FileStore.gives c.args.files.now in
    let words = checked_words c.args.words.now in
    let its = c.in_ok-bytes.ensures in
    let known = Some c.in_ok-bytes.bytes.items in
    let opened : IsOpened gives true words.image.now known = record { bytes = its.ok; told = λ _. refl } in
    let held = c.in_ok-certificate.ensures.ok in
    record {
      ok = record { written = held.written; files = has_files gives _ true words _ _ known c.in_ok-certificate.certificate c.in_ok-asked.ensures.ok opened its.same held; spelled = held.spelled };
      fault = tt;
      stores = c.in_ok-certificate.ensures.stores ∙ its.stores;
      takes = taken.two _ _ _ _ _ its.taken c.in_ok-certificate.ensures.taken;
    }
