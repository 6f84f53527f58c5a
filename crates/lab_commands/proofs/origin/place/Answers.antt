use Rattle.std.proofs.Common.{refl, inl, inr, ap, subst, ◌∙◌, length, suc, option_map}
use Rattle.std.specs.Prelude.{IfOk, IfErr}
use Rattle.lab_commands.specs.Files.{after_opens}
use Rattle.lab_commands.specs.Origin.{HasPutMarks, IsTracedMapUnput}
use Rattle.lab_commands.proofs.HandedLemmas.{err_more, ok_more, on_err_more, on_ok_more}
use Rattle.lab_commands.proofs.UndoneLemmas.{handed}
use Rattle.lab_commands.proofs.origin.place.Goals as goal

pub returns-in_err-geometry : goal.returns-in_err-geometry
returns-in_err-geometry g c =
    rw (handed c.from_residual.result _ c.from_residual.ensures.1) (record { placed = tt; fault = inl c.in_err-geometry.ensures.fault; kept = refl; opened = tt })

pub returns-in_err-last : goal.returns-in_err-last
returns-in_err-last g c =
    let shape = c.in_ok-geometry in
    let handing = c.from_residual-in_err-last in
    rw (handed handing.result _ handing.ensures.1) (record { placed = tt; fault = inr (shape.geometry, shape.ensures.ok, inl c.in_err-last.ensures.fault); kept = refl; opened = tt })

pub returns-in_err-allow_origin : goal.returns-in_err-allow_origin
returns-in_err-allow_origin g c =
    let shape = c.in_ok-geometry in
    let last = c.in_ok-last in
    let handing = c.from_residual-in_err-allow_origin in
    rw (handed handing.result _ handing.ensures.1) (record { placed = tt; fault = inr (shape.geometry, shape.ensures.ok, inr (last.last, last.ensures.ok, inl c.in_err-allow_origin.ensures.fault)); kept = ap g.F.LabFiles.kept c.allow_origin.ensures.same; opened = tt })

pub returns : goal.returns
returns g c =
    let words = c.args.words.now in
    let shape = c.in_ok-geometry in
    let last = c.in_ok-last in
    let allowed = c.in_ok-allow_origin.ensures in
    let after = c.put_marks.new.files in
    let done = c.put_marks.result in
    let put = subst (λ f. IfOk done (λ marks. HasPutMarks (g.F.LabFiles.answers f) words (g.F.LabFiles.kept f) (g.F.LabFiles.kept after) shape.geometry last.last marks.items)) allowed.same c.put_marks.ensures.put in
    let fault = subst (λ f. IfErr done (IsTracedMapUnput (g.F.LabFiles.answers f) words shape.geometry (g.F.LabFiles.opened f) (g.F.LabFiles.opened after))) allowed.same c.put_marks.ensures.fault in
    record {
      placed = ok_more _ _ done put
          (λ marks has. record { g = shape.geometry; last = last.last; put = record { geometry_is = shape.ensures.ok; last_is = last.ensures.ok; allowed = allowed.ok; followed = has.followed; put = has.put } });
      fault = err_more _ _ done fault (λ told why. inr (shape.geometry, shape.ensures.ok, inr (last.last, last.ensures.ok, inr (allowed.ok, why))));
      opened = on_ok_more _ _ done c.put_marks.ensures.opened (λ is. is ∙ ap (λ f. after_opens (length words.readings.items) (option_map suc (g.F.LabFiles.opened f))) allowed.same);
      kept = on_err_more _ _ done c.put_marks.ensures.kept (λ is. is ∙ ap g.F.LabFiles.kept allowed.same);
    }
