use Rattle.lab_dump.proofs.RepeatLemmas.{no_claim, readable, unreadable}
use Rattle.lab_dump.proofs.survey.blocks_of.Goals as goal

pub returns-in-Ok-clause-blocks : goal.returns-in-Ok-clause-blocks
returns-in-Ok-clause-blocks c = λ image h.
    let g = c.args.survey.now.geometry in
    (readable g 1 image (no_claim g) (c.in-Ok.ensures.ok 1 image (no_claim g) h), c.in-Ok.ensures.states image h)

pub returns-in-Err-clause-blocks : goal.returns-in-Err-clause-blocks
returns-in-Err-clause-blocks c = λ image h.
    let g = c.args.survey.now.geometry in
    unreadable g 1 image (no_claim g) c.in-Err.field-0 c.in-Err.ensures.kind (c.in-Err.ensures.err 1 image (no_claim g) h)
