use Rattle.std.proofs.Common.{◌∙◌, ap, subst, sym}
use Rattle.image_check.specs.Survey.{index_of}
use Rattle.page_layout.specs.Live.{IsKeyOf}
use Rattle.lab_dump.proofs.TraceLemmas.{traces_none, traces_outside, traces_set}
use Rattle.lab_dump.proofs.doubting.note_trace.Goals as goal

pub returns-in_default : goal.returns-in_default
returns-in_default c = λ ms h e. traces_none c.args.geometry.now ms c.args.row c.args.traces.now h (e ∙ c.in_default.is)

pub returns-in_default-index_of : goal.returns-in_default-index_of
returns-in_default-index_of c = λ ms h e.
    traces_outside c.args.geometry.now ms c.args.row c.args.traces.now c.in-Some.found h (e ∙ c.in-Some.is)
    (λ of. c.in_default-index_of.ensures (subst (λ k. IsKeyOf c.args.geometry.now k) (sym c.key.ensures) of))

pub returns-in-Some-index_of : goal.returns-in-Some-index_of
returns-in-Some-index_of c = λ ms h e.
    let g = c.args.geometry.now in
    traces_set g ms c.args.row c.in-Some-index_of.index c.args.traces.now c.in-Some.found _ _ h (e ∙ c.in-Some.is)
    (subst (λ k. IsKeyOf g k) c.key.ensures c.in-Some-index_of.ensures.0) (c.in-Some-index_of.ensures.1 ∙ ap (index_of g) c.key.ensures)
    (λ l told. c.step.ensures l told)
