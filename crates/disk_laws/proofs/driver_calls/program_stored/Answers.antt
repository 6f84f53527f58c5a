use Rattle.disk_laws.proofs.CallLemmas.{asked_program, program_leaves, program_stands}
use Rattle.disk_laws.proofs.driver_calls.program_stored.Goals as goal

pub returns-clause-asks : goal.returns-clause-asks
returns-clause-asks g c = λ h.
    let s = g.S.Store in
    asked_program s.held s.honest s.failed c.args.row c.args.body.now c.args.spare.now c.program.result c.args.driver.now c.program.new.self h (c.requires.stands h) c.requires.row_in c.requires.body_whole
    c.requires.spare_whole c.program.ensures.sends c.program.ensures.step c.program.ensures.told

pub returns-clause-stored : goal.returns-clause-stored
returns-clause-stored g c = λ h.
    let s = g.S.Store in
    program_leaves s.held s.honest s.failed c.args.row c.args.body.now c.args.spare.now c.program.result c.args.driver.now c.program.new.self h (returns-clause-asks g c h)

pub returns-clause-stands : goal.returns-clause-stands
returns-clause-stands g c = λ h.
    let s = g.S.Store in
    program_stands s.held s.honest s.failed c.args.row c.args.body.now c.args.spare.now c.program.result c.args.driver.now c.program.new.self h (returns-clause-asks g c h) c.program.ensures.geometry
