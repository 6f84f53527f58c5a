use Rattle.std.proofs.Common.{refl, inl, inr, ◌∙◌, ap, suc, option_map}
use Rattle.lab_commands.specs.declared.text.LabFault.TheVariants as fault
use Rattle.lab_commands.proofs.CompareLemmas.{compared_before, unheld_before}
use Rattle.lab_commands.proofs.UndoneLemmas.{handed}
use Rattle.lab_commands.proofs.compare.hold.Goals as goal

pub returns-in_err-geometry : goal.returns-in_err-geometry
returns-in_err-geometry g c =
    rw (handed c.from_residual.result _ c.from_residual.ensures.1) (record {
      ok = tt;
      fault = (inl c.in_err-geometry.ensures.fault);
      kept = refl;
      opened = tt;
    })

pub returns-in_err-room : goal.returns-in_err-room
returns-in_err-room g c =
    rw (handed c.from_residual-in_err-room.result fault.OutOfMemory c.from_residual-in_err-room.ensures.1) (record {
      ok = tt;
      fault = (inr (c.in_ok-geometry.geometry, c.in_ok-geometry.ensures.ok, inl (refl, refl)));
      kept = refl;
      opened = tt;
    })

pub returns-in_err-certificate : goal.returns-in_err-certificate
returns-in_err-certificate g c =
    rw (handed c.from_residual-in_err-certificate.result _ c.from_residual-in_err-certificate.ensures.1) (record {
      ok = tt;
      fault = (inr (c.in_ok-geometry.geometry, c.in_ok-geometry.ensures.ok, inr (inl (c.in_err-certificate.ensures.fault, c.in_err-certificate.ensures.opened))));
      kept = c.load_certificate.ensures.kept;
      opened = tt;
    })

pub returns-in_err-compared : goal.returns-in_err-compared
returns-in_err-compared g c =
    let a = g.F.LabFiles.answers c.args.files.now in
    let b = g.F.LabFiles.answers c.load_certificate.new.files in
    let why = unheld_before a b c.in_ok-geometry.geometry c.in_ok-certificate.certificate c.args.words.now.dump.now c.in_err-compared.field-0.0 c.in_ok-certificate.ensures.no_more c.in_err-compared.ensures.fault in
    rw (handed c.from_residual-in_err-compared.result _ c.from_residual-in_err-compared.ensures.1) (record {
      ok = tt;
      fault = (inr (c.in_ok-geometry.geometry, c.in_ok-geometry.ensures.ok, inr (inr (c.in_ok-certificate.certificate, c.in_ok-certificate.ensures.ok, why))));
      kept = c.compare_with.ensures.kept ∙ c.load_certificate.ensures.kept;
      opened = tt;
    })

pub returns-clause-ok : goal.returns-clause-ok
returns-clause-ok g c =
    let a = g.F.LabFiles.answers c.args.files.now in
    let b = g.F.LabFiles.answers c.load_certificate.new.files in
    record {
      claim = c.in_ok-certificate.certificate;
      geometry_is = c.in_ok-geometry.ensures.ok;
      certificate = c.in_ok-certificate.ensures.ok;
      sizes = c.in_ok-compared.ensures.sizes;
      compared = compared_before a b c.args.words.now.dump.now c.in_ok-geometry.geometry c.in_ok-certificate.certificate c.in_ok-compared.compared c.in_ok-certificate.ensures.no_more c.in_ok-compared.ensures.ok;
    }

pub returns-clause-opened : goal.returns-clause-opened
returns-clause-opened g c = c.compare_with.ensures.opened ∙ ap (option_map suc) c.in_ok-certificate.ensures.opened
