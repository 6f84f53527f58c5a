use Rattle.std.proofs.Common.{refl, inl, inr, ap, subst, ◌∙◌, suc, option_map}
use Rattle.lab_commands.specs.Files.{AnswersNoMore}
use Rattle.lab_commands.specs.Array.{HasPutSectors, IsArrayUnput}
use Rattle.lab_commands.proofs.UndoneLemmas.{handed}
use Rattle.lab_commands.proofs.array.place.Goals as goal

pub returns-in_err-geometry : goal.returns-in_err-geometry
returns-in_err-geometry g c =
    rw (handed c.from_residual.result _ c.from_residual.ensures.1) (record { placed = tt; sized = tt; fault = inl c.in_err-geometry.ensures.fault; no_more = tt; kept = refl; opened = tt })

pub returns-in_err-last : goal.returns-in_err-last
returns-in_err-last g c =
    let shape = c.in_ok-geometry in
    rw (handed c.from_residual-in_err-last.result _ c.from_residual-in_err-last.ensures.1) (record { placed = tt; sized = tt; fault = inr (shape.geometry, shape.ensures.ok, inl c.in_err-last.ensures.fault); no_more = tt; kept = refl; opened = tt })

pub returns-in_err-allow_both : goal.returns-in_err-allow_both
returns-in_err-allow_both g c =
    let shape = c.in_ok-geometry in
    let last = c.in_ok-last in
    let handing = c.from_residual-in_err-allow_both in
    rw (handed handing.result _ handing.ensures.1) (record { placed = tt; sized = tt; fault = inr (shape.geometry, shape.ensures.ok, inr (last.last, last.ensures.ok, inl c.in_err-allow_both.ensures.fault)); no_more = tt; kept = ap g.F.LabFiles.kept c.allow_both.ensures.same; opened = tt })

pub returns-in_err-put : goal.returns-in_err-put
returns-in_err-put g c =
    let shape = c.in_ok-geometry in
    let last = c.in_ok-last in
    let allowed = c.in_ok-allow_both.ensures in
    let failed = c.in_err-put in
    let why = subst (λ f. IsArrayUnput (g.F.LabFiles.answers f) shape.geometry c.args.words.array (g.F.LabFiles.opened f) (g.F.LabFiles.opened c.put_sectors.new.files) failed.field-0.0) allowed.same failed.ensures.fault in
    let handing = c.from_residual-in_err-put in
    rw (handed handing.result _ handing.ensures.1) (record { placed = tt; sized = tt; fault = inr (shape.geometry, shape.ensures.ok, inr (last.last, last.ensures.ok, inr (allowed.ok, why))); no_more = tt; kept = failed.ensures.kept ∙ ap g.F.LabFiles.kept allowed.same; opened = tt })

pub returns-clause-placed : goal.returns-clause-placed
returns-clause-placed g c =
    let shape = c.in_ok-geometry in
    let last = c.in_ok-last in
    let allowed = c.in_ok-allow_both.ensures in
    let put = c.in_ok-put in
    let words = c.args.words in
    let has = subst (λ f. HasPutSectors (g.F.LabFiles.answers f) words.array (g.F.LabFiles.kept f) (g.F.LabFiles.kept c.put_sectors.new.files) shape.geometry last.last words.damaged put.put.held.items put.put.left) allowed.same put.ensures.put in
    record { pieces = has.pieces; made = record { geometry_is = shape.ensures.ok; last_is = last.ensures.ok; allowed = allowed.ok; made = has.made }; put = has.put }

pub returns-clause-no_more : goal.returns-clause-no_more
returns-clause-no_more g c = subst (λ f. AnswersNoMore (g.F.LabFiles.answers f) (g.F.LabFiles.answers c.put_sectors.new.files)) c.in_ok-allow_both.ensures.same c.in_ok-put.ensures.no_more

pub returns-clause-opened : goal.returns-clause-opened
returns-clause-opened g c = c.in_ok-put.ensures.opened ∙ ap (λ f. option_map suc (g.F.LabFiles.opened f)) c.in_ok-allow_both.ensures.same
