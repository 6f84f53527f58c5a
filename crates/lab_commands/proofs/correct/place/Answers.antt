use Rattle.std.proofs.Common.{refl, inl, inr, ap, subst, ◌∙◌, suc, option_map}
use Rattle.lab_commands.specs.Files.{AnswersNoMore}
use Rattle.lab_commands.specs.Array.{IsArrayUnput}
use Rattle.lab_commands.specs.Correct.{CorrectionCounts, HasPutRight}
use Rattle.lab_commands.proofs.UndoneLemmas.{handed}
use Rattle.lab_commands.proofs.correct.place.Goals as goal

pub returns-in_err-geometry : goal.returns-in_err-geometry
returns-in_err-geometry g c =
    rw (handed c.from_residual.result _ c.from_residual.ensures.1) (record { placed = tt; fault = inl c.in_err-geometry.ensures.fault; no_more = tt; kept = refl; opened = tt })

pub returns-in_err-chip : goal.returns-in_err-chip
returns-in_err-chip g c =
    let shape = c.in_ok-geometry in
    rw (handed c.from_residual-in_err-chip.result _ c.from_residual-in_err-chip.ensures.1) (record { placed = tt; fault = inr (shape.geometry, shape.ensures.ok, inl c.in_err-chip.ensures.fault); no_more = tt; kept = refl; opened = tt })

pub returns-in_err-allow_both : goal.returns-in_err-allow_both
returns-in_err-allow_both g c =
    let shape = c.in_ok-geometry in
    let chip = c.in_ok-chip in
    let handing = c.from_residual-in_err-allow_both in
    rw (handed handing.result _ handing.ensures.1) (record { placed = tt; fault = inr (shape.geometry, shape.ensures.ok, inr (chip.chip.raw, chip.ensures.ok, inl c.in_err-allow_both.ensures.fault)); no_more = tt; kept = ap g.F.LabFiles.kept c.allow_both.ensures.same; opened = tt })

pub returns-in_err-put : goal.returns-in_err-put
returns-in_err-put g c =
    let shape = c.in_ok-geometry in
    let chip = c.in_ok-chip in
    let allowed = c.in_ok-allow_both.ensures in
    let failed = c.in_err-put in
    let why = subst (λ f. IsArrayUnput (g.F.LabFiles.answers f) chip.chip.raw c.args.words.now (g.F.LabFiles.opened f) (g.F.LabFiles.opened c.put_corrected.new.files) failed.field-0.0) allowed.same failed.ensures.fault in
    let handing = c.from_residual-in_err-put in
    rw (handed handing.result _ handing.ensures.1) (record { placed = tt; fault = inr (shape.geometry, shape.ensures.ok, inr (chip.chip.raw, chip.ensures.ok, inr (allowed.ok, why))); no_more = tt; kept = failed.ensures.kept ∙ ap g.F.LabFiles.kept allowed.same; opened = tt })

pub returns-clause-placed : goal.returns-clause-placed
returns-clause-placed g c =
    let shape = c.in_ok-geometry in
    let chip = c.in_ok-chip in
    let allowed = c.in_ok-allow_both.ensures in
    let put = c.in_ok-put.put in
    let counts : CorrectionCounts = record { turned = put.turned; touched = put.touched; losses = put.losses.items } in
    let has = subst (λ f. HasPutRight (g.F.LabFiles.answers f) c.args.words.now (g.F.LabFiles.kept f) (g.F.LabFiles.kept c.put_corrected.new.files) shape.geometry chip.chip.raw counts) allowed.same c.in_ok-put.ensures.put in
    record { pieces = has.pieces; made = record { chip = chip.chip.raw; geometry_is = shape.ensures.ok; chip_is = chip.ensures.ok; allowed = allowed.ok; made = has.made }; put = has.put }

pub returns-clause-no_more : goal.returns-clause-no_more
returns-clause-no_more g c = subst (λ f. AnswersNoMore (g.F.LabFiles.answers f) (g.F.LabFiles.answers c.put_corrected.new.files)) c.in_ok-allow_both.ensures.same c.in_ok-put.ensures.no_more

pub returns-clause-opened : goal.returns-clause-opened
returns-clause-opened g c = c.in_ok-put.ensures.opened ∙ ap (λ f. option_map suc (g.F.LabFiles.opened f)) c.in_ok-allow_both.ensures.same
