use Rattle.disk_laws.proofs.CallLemmas.{asked_erase, erase_leaves, erase_stands}
use Rattle.disk_laws.proofs.driver_calls.erase_stored.Goals as goal

pub returns-clause-asks : goal.returns-clause-asks
returns-clause-asks g c = λ h.
    let s = g.S.Store in
    asked_erase s.held s.honest s.failed c.args.block c.erase.result c.args.driver.now c.erase.new.self h (c.requires.stands h) c.requires.block_in c.erase.ensures.sends c.erase.ensures.step c.erase.ensures.told

pub returns-clause-stored : goal.returns-clause-stored
returns-clause-stored g c = λ h.
    let s = g.S.Store in
    erase_leaves s.held s.honest s.failed c.args.block c.erase.result c.args.driver.now c.erase.new.self h (returns-clause-asks g c h)

pub returns-clause-stands : goal.returns-clause-stands
returns-clause-stands g c = λ h.
    let s = g.S.Store in
    erase_stands s.held s.honest s.failed c.args.block c.erase.result c.args.driver.now c.erase.new.self h (returns-clause-asks g c h) c.erase.ensures.geometry
