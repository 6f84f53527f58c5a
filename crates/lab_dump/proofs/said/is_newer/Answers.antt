use Rattle.std.proofs.Common.{◌∙◌, ap}
use Rattle.image_check.specs.Survey.{index_of}
use Rattle.lab_dump.proofs.SaidLemmas.{newer_told}
use Rattle.lab_dump.proofs.said.is_newer.Goals as goal

pub returns-in-Some : goal.returns-in-Some
returns-in-Some c = λ image size h of.
    let g = c.args.geometry.now in
    let says = c.args.says in
    c.is_before.ensures ∙ newer_told g image c.args.traces.now says c.in-Some.index _ size h of (c.in-Some.ensures.1 ∙ ap (index_of g) c.key.ensures)
