use Rattle.std.proofs.Common.{refl, inl, inr, ap, subst, ◌∙◌, suc, option_map}
use Rattle.lab_commands.specs.Arrange.{HasPutInOrder, IsArrangedUnput}
use Rattle.lab_commands.proofs.UndoneLemmas.{handed}
use Rattle.lab_commands.proofs.arrange.place.Goals as goal

pub returns-in_err-said : goal.returns-in_err-said
returns-in_err-said g c =
    rw (handed c.from_residual.result _ c.from_residual.ensures.1) (record { placed = tt; fault = inl (c.in_err-said.ensures.fault, refl); kept = refl; opened = tt })

pub returns-in_err-allow : goal.returns-in_err-allow
returns-in_err-allow g c =
    let shape = c.in_ok-said in
    let handing = c.from_residual-in_err-allow in
    rw (handed handing.result _ handing.ensures.1) (record { placed = tt; fault = inr (shape.said.0, shape.said.1, shape.ensures.ok, inl (c.in_err-allow.ensures.fault, ap g.F.LabFiles.opened c.allow.ensures.same)); kept = ap g.F.LabFiles.kept c.allow.ensures.same; opened = tt })

pub returns-in_err-place_in_order : goal.returns-in_err-place_in_order
returns-in_err-place_in_order g c =
    let shape = c.in_ok-said in
    let allowed = c.in_ok-allow.ensures in
    let failed = c.in_err-place_in_order in
    let why = subst (λ f. IsArrangedUnput (g.F.LabFiles.answers f) c.args.words.now shape.said.0 shape.said.1 (g.F.LabFiles.opened f) (g.F.LabFiles.opened c.place_in_order.new.files) failed.field-0.0) allowed.same failed.ensures.fault in
    let handing = c.from_residual-in_err-place_in_order in
    rw (handed handing.result _ handing.ensures.1) (record { placed = tt; fault = inr (shape.said.0, shape.said.1, shape.ensures.ok, inr (allowed.ok, why)); kept = failed.ensures.kept ∙ ap g.F.LabFiles.kept allowed.same; opened = tt })

pub returns-clause-placed : goal.returns-clause-placed
returns-clause-placed g c =
    let shape = c.in_ok-said in
    let allowed = c.in_ok-allow.ensures in
    let has = subst (λ f. HasPutInOrder (g.F.LabFiles.answers f) c.args.words.now (g.F.LabFiles.kept f) (g.F.LabFiles.kept c.place_in_order.new.files) shape.said.0 shape.said.1) allowed.same c.in_ok-place_in_order.ensures.put in
    record { a = shape.said.1; pieces = has.pieces; said = shape.ensures.ok; allowed = allowed.ok; made = has.made; put = has.put }

pub returns-clause-opened : goal.returns-clause-opened
returns-clause-opened g c = c.in_ok-place_in_order.ensures.opened ∙ ap (λ f. option_map suc (g.F.LabFiles.opened f)) c.in_ok-allow.ensures.same
