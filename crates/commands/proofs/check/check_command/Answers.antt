use Rattle.std.proofs.Common.{Err, ap, inl, inr, refl, ◌∙◌}
use Rattle.std.proofs.KnownBytes.{Keeps-refl}
use Rattle.std.proofs.lemmas.Result.{err_from_is_err_and}
use Rattle.commands.proofs.CheckLemmas.{accepted_does, has_files, stops, uncertified, uncertified_fault}
use Rattle.commands.proofs.TakenLemmas as taken
use Rattle.commands.proofs.check.check_command.Goals as goal

pub returns-in_err-asked : goal.returns-in_err-asked
returns-in_err-asked g c =
    let p = err_from_is_err_and c.from_residual.result c.from_residual.ensures.1 in
    let why = inl c.in_err-asked.ensures.fault in
    record { does = stops (g.F.FileStore.gives c.args.files.now) (g.F.FileStore.tells c.args.files.now) c.args.words _ _ c.from_residual.result _ (p.1 ∙ ap Err p.2) (Keeps-refl _) why; stores = refl; takes = taken.some _ 0 _ _ c.from_residual.result _ (p.1 ∙ ap Err p.2) (taken.none _) }

pub returns-in_err-image : goal.returns-in_err-image
returns-in_err-image g c =
    let p = err_from_is_err_and c.from_residual-in_err-image.result c.from_residual-in_err-image.ensures.1 in
    let asked = c.in_ok-asked.asked in
    let why = inr (inl (record { geometry = asked.geometry; capacity = asked.capacity; asked = c.in_ok-asked.ensures.ok; unread = c.in_err-image.ensures.fault })) in
    record {
      does = stops (g.F.FileStore.gives c.args.files.now) (g.F.FileStore.tells c.args.files.now) c.args.words _ _ c.from_residual-in_err-image.result c.in_err-image.field-0.0 (p.1 ∙ ap Err p.2) (Keeps-refl _) why;
      stores = c.in_err-image.ensures.stores;
      takes = taken.some _ 1 _ _ c.from_residual-in_err-image.result _ (p.1 ∙ ap Err p.2) c.in_err-image.ensures.taken;
    }

pub returns-in_err-certificate : goal.returns-in_err-certificate
returns-in_err-certificate g c =
    let p = err_from_is_err_and c.from_residual-in_err-certificate.result c.from_residual-in_err-certificate.ensures.1 in
    let gives = g.F.FileStore.gives c.args.files.now in
    let tells = g.F.FileStore.tells c.args.files.now in
    let stop = c.in_err-certificate.field-0.0 in
    let none = uncertified gives _ tells c.args.words _ _ _ stop c.in_ok-asked.ensures.ok c.in_ok-image.ensures.ok c.in_ok-image.ensures.same c.in_err-certificate.ensures.fault in
    let why = uncertified_fault gives tells c.args.words _ _ stop none in
    record {
      does = stops gives tells c.args.words _ _ c.from_residual-in_err-certificate.result stop (p.1 ∙ ap Err p.2) (Keeps-refl _) why;
      stores = c.in_err-certificate.ensures.stores ∙ c.in_ok-image.ensures.stores;
      takes = taken.some _ 2 _ _ c.from_residual-in_err-certificate.result _ (p.1 ∙ ap Err p.2) (taken.two _ _ _ _ _ c.in_ok-image.ensures.taken c.in_err-certificate.ensures.taken);
    }

pub returns : goal.returns
returns g c =
    let gives = g.F.FileStore.gives c.args.files.now in
    let tells = g.F.FileStore.tells c.args.files.now in
    let asked = c.in_ok-asked.asked in
    let known = g.F.Reader.Read.remaining c.in_ok-image.image in
    let claim = c.in_ok-certificate.certificate in
    let held = c.in_ok-certificate.ensures.ok in
    let files = has_files gives _ tells c.args.words asked.geometry asked.capacity known claim c.in_ok-asked.ensures.ok c.in_ok-image.ensures.ok c.in_ok-image.ensures.same held in
    record {
      does = accepted_does gives tells c.args.words asked.geometry asked.capacity known held.written claim _ _ _ files held.spelled c.accept.ensures;
      stores = c.in_ok-certificate.ensures.stores ∙ c.in_ok-image.ensures.stores;
      takes = taken.all _ 2 _ _ c.accept.result refl (taken.two _ _ _ _ _ c.in_ok-image.ensures.taken c.in_ok-certificate.ensures.taken);
    }
