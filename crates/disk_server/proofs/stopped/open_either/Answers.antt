use Rattle.std.proofs.Common.{◌≡◌, ◌∙◌, [], inl}
use Rattle.disk_server.proofs.StoppedLemmas.{either, neither, was_stale}
use Rattle.disk_server.proofs.FaultLemmas.{clear_by}
use Rattle.disk_server.proofs.stopped.open_either.Goals as goal

pub returns-in-Ok-clause-entries : goal.returns-in-Ok-clause-entries
returns-in-Ok-clause-entries g c = inl c.in-Ok.ensures.entries

pub returns-in-None-clause-fault : goal.returns-in-None-clause-fault
returns-in-None-clause-fault g c = inl ((c.in-Err.ensures.fault, c.in-Err.ensures.given), c.in-None.ensures)

pub returns-in-Some-clause-entries : goal.returns-in-Some-clause-entries
returns-in-Some-clause-entries g c =
    either g.S.Store.held g.S.Store.honest (λ d. d.engine.mapping.capacity) c.args.store c.in-Err.back.0 c.args.capacity c.in-Some.field-0 c.args.stale c.open_once.result
    (was_stale g.S.Store.held g.S.Store.honest g.S.Store.failed c.args.store c.in-Err.back.0 c.args.capacity c.args.share c.in-Some.field-0 c.in-Err.back.1 c.in-Some.ensures c.in-Err.ensures.fault c.in-Err.ensures.given)
    c.open_once.ensures.entries

pub returns-in-Some-clause-fault : goal.returns-in-Some-clause-fault
returns-in-Some-clause-fault g c =
    neither g.S.Store.held g.S.Store.honest g.S.Store.failed c.args.store c.in-Err.back.0 c.args.capacity c.in-Some.field-0 c.args.stale c.args.share c.open_once.result
    (was_stale g.S.Store.held g.S.Store.honest g.S.Store.failed c.args.store c.in-Err.back.0 c.args.capacity c.args.share c.in-Some.field-0 c.in-Err.back.1 c.in-Some.ensures c.in-Err.ensures.fault c.in-Err.ensures.given)
    c.open_once.ensures.fault

pub returns-in-Some-clause-clear : goal.returns-in-Some-clause-clear
returns-in-Some-clause-clear g c = clear_by (λ d. d.engine.nand.told.at_hand ≡ []) _ _ c.open_once.result (λ is. c.in-Err.ensures.given.as_honest ∙ is) c.open_once.ensures.clear
