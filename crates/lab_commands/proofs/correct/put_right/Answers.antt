use Rattle.std.proofs.Common.{◌∙◌}
use Rattle.lab_commands.proofs.BegunLemmas.{told_unmade}
use Rattle.lab_commands.proofs.UndoneLemmas.{handed, no_more_then, unbegun}
use Rattle.lab_commands.proofs.correct.put_right.Goals as goal

pub returns-in_err-begun : goal.returns-in_err-begun
returns-in_err-begun g c =
    let why = unbegun (g.F.LabFiles.answers c.args.files.now) c.args.chip.now.raw c.args.words.now.dump.now c.args.words.now.out.now c.in_err-begun.field-0.0 c.in_err-begun.ensures.fault in
    rw (handed c.from_residual.result _ c.from_residual.ensures.1) (record { made = tt; fault = why; no_more = c.begin_pages.ensures.no_more; beside = tt; kept = c.in_err-begun.ensures.kept; opened = tt })

pub returns-in-Ok-clause-no_more : goal.returns-in-Ok-clause-no_more
returns-in-Ok-clause-no_more g c = c.begin_pages.ensures.no_more

pub returns-in-Ok-clause-beside : goal.returns-in-Ok-clause-beside
returns-in-Ok-clause-beside g c = c.in_ok-begun.ensures.made

pub returns-clause-no_more : goal.returns-clause-no_more
returns-clause-no_more g c = no_more_then _ _ _ c.begin_pages.ensures.no_more c.unmade.ensures.no_more

pub returns-clause-kept : goal.returns-clause-kept
returns-clause-kept g c = c.unmade.ensures.kept ∙ c.in_ok-begun.ensures.made

pub returns-clause-fault : goal.returns-clause-fault
returns-clause-fault g c =
    let begun = c.in_ok-begun.ensures in
    let err = c.in-Err in
    told_unmade _ c.args.words.now.dump c.args.words.now.out c.args.chip.now.raw _ err.unwritten.fault c.unmade.result c.unmade.ensures.told begun.bytes err.ensures.err
    (λ is. begun.reads c.correct_dump.new.reader (err.ensures.source is)) (λ is. begun.writes err.unwritten.target (err.ensures.target is))

pub returns-in-Ok-clause-opened : goal.returns-in-Ok-clause-opened
returns-in-Ok-clause-opened g c = c.in_ok-begun.ensures.opened
