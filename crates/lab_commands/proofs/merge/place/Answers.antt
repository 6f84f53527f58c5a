use Rattle.std.proofs.Common.{refl, inl, inr, ap, subst, ◌∙◌, length}
use Rattle.std.specs.Prelude.{IfOk, IfErr}
use Rattle.lab_commands.specs.Files.{after_opens}
use Rattle.lab_commands.specs.Merge.{HasPutJoined, IsMergeUnput}
use Rattle.lab_commands.proofs.HandedLemmas.{err_more, ok_more, on_err_more, on_ok_more}
use Rattle.lab_commands.proofs.UndoneLemmas.{handed}
use Rattle.lab_commands.proofs.merge.place.Goals as goal

pub returns-in_err-geometry : goal.returns-in_err-geometry
returns-in_err-geometry g c =
    rw (handed c.from_residual.result _ c.from_residual.ensures.1) (record { placed = tt; fault = inl (c.in_err-geometry.ensures.fault, refl); kept = refl; opened = tt })

pub returns-in_err-allow_merge : goal.returns-in_err-allow_merge
returns-in_err-allow_merge g c =
    let shape = c.in_ok-geometry in
    let handing = c.from_residual-in_err-allow_merge in
    rw (handed handing.result _ handing.ensures.1) (record { placed = tt; fault = inr (shape.geometry, shape.ensures.ok, inl (c.in_err-allow_merge.ensures.fault, ap g.F.LabFiles.opened c.allow_merge.ensures.same)); kept = ap g.F.LabFiles.kept c.allow_merge.ensures.same; opened = tt })

pub returns : goal.returns
returns g c =
    let words = c.args.words.now in
    let shape = c.in_ok-geometry in
    let allowed = c.in_ok-allow_merge.ensures in
    let after = c.put_joined.new.files in
    let done = c.put_joined.result in
    let put = subst (λ f. IfOk done (λ told. HasPutJoined (g.F.LabFiles.answers f) words (g.F.LabFiles.kept f) (g.F.LabFiles.kept after) shape.geometry told.conflicts.items told.unsound.items told.tried.items told.tally)) allowed.same c.put_joined.ensures.put in
    let fault = subst (λ f. IfErr done (IsMergeUnput (g.F.LabFiles.answers f) words shape.geometry (g.F.LabFiles.opened f) (g.F.LabFiles.opened after))) allowed.same c.put_joined.ensures.fault in
    record {
      placed = ok_more _ _ done put (λ told has. record { g = shape.geometry; pieces = has.pieces; geometry_is = shape.ensures.ok; allowed = allowed.ok; made = has.made; put = has.put });
      fault = err_more _ _ done fault (λ told why. inr (shape.geometry, shape.ensures.ok, inr (allowed.ok, why)));
      opened = on_ok_more _ _ done c.put_joined.ensures.opened (λ is. is ∙ ap (λ f. after_opens (length words.dumps.items) (g.F.LabFiles.opened f)) allowed.same);
      kept = on_err_more _ _ done c.put_joined.ensures.kept (λ is. is ∙ ap g.F.LabFiles.kept allowed.same);
    }
