use Rattle.std.proofs.Common.{◌≡◌, ◌∙◌, [], true, IfOk, inl, subst}
use Rattle.disk_server.specs.Disk.{holds}
use Rattle.disk_server.specs.Opened.{is_honest_in}
use Rattle.disk_server.proofs.StoppedLemmas.{by_reads, by_writes, last_fault, later, opened_later, unwritten, was_stale}
use Rattle.disk_server.proofs.FaultLemmas.{clear_by}
use Rattle.disk_server.proofs.stopped.open_stopped.Goals as goal

pub returns-in-Ok-clause-entries : goal.returns-in-Ok-clause-entries
returns-in-Ok-clause-entries g c = inl c.in-Ok.ensures.entries

pub returns-in-None-clause-fault : goal.returns-in-None-clause-fault
returns-in-None-clause-fault g c = inl ((c.in-Err.ensures.fault, c.in-Err.ensures.given), c.in-None.ensures)

pub returns-then-writes-clause-honest : goal.returns-then-writes-clause-honest
returns-then-writes-clause-honest g c =
    subst (λ b. IfOk c.open_stale.result (λ d. b ≡ true → holds (is_honest_in g.S.Store.honest) d ≡ true)) c.in-Err.ensures.given.as_honest c.open_stale.ensures.honest

pub returns-then-writes-clause-fault : goal.returns-then-writes-clause-fault
returns-then-writes-clause-fault g c =
    later g.S.Store.held g.S.Store.honest g.S.Store.failed c.args.store c.in-Err.back.0 c.args.capacity c.in-Some.stale c.args.share c.open_stale.result
    (was_stale g.S.Store.held g.S.Store.honest g.S.Store.failed c.args.store c.in-Err.back.0 c.args.capacity c.args.share c.in-Some.stale c.in-Err.back.1 c.in-Some.ensures c.in-Err.ensures.fault c.in-Err.ensures.given)
    c.open_stale.ensures.fault

pub returns-then-writes-clause-entries : goal.returns-then-writes-clause-entries
returns-then-writes-clause-entries g c =
    opened_later g.S.Store.held g.S.Store.honest g.S.Store.failed (λ d. d.engine.mapping.capacity) c.args.writes c.args.store c.in-Err.back.0 c.args.capacity c.in-Some.stale c.args.share c.open_stale.result
    (was_stale g.S.Store.held g.S.Store.honest g.S.Store.failed c.args.store c.in-Err.back.0 c.args.capacity c.args.share c.in-Some.stale c.in-Err.back.1 c.in-Some.ensures c.in-Err.ensures.fault c.in-Err.ensures.given)
    (by_writes g.S.Store.held g.S.Store.honest g.S.Store.failed (λ d. d.engine.mapping.capacity) c.args.writes c.args.capacity c.in-Some.stale c.args.share c.open_stale.result c.if-writes.true c.open_stale.ensures.entries)

pub returns-then-writes-clause-pages : goal.returns-then-writes-clause-pages
returns-then-writes-clause-pages g c = unwritten _ _ c.args.writes c.open_stale.result c.if-writes.true

pub returns-else-writes-clause-fault : goal.returns-else-writes-clause-fault
returns-else-writes-clause-fault g c =
    later g.S.Store.held g.S.Store.honest g.S.Store.failed c.args.store c.in-Err.back.0 c.args.capacity c.in-Some.stale c.args.share c.open_once.result
    (was_stale g.S.Store.held g.S.Store.honest g.S.Store.failed c.args.store c.in-Err.back.0 c.args.capacity c.args.share c.in-Some.stale c.in-Err.back.1 c.in-Some.ensures c.in-Err.ensures.fault c.in-Err.ensures.given)
    (last_fault g.S.Store.held g.S.Store.honest g.S.Store.failed c.in-Err.back.0 c.args.capacity c.in-Some.stale c.args.share c.open_once.result c.open_once.ensures.fault)

pub returns-else-writes-clause-entries : goal.returns-else-writes-clause-entries
returns-else-writes-clause-entries g c =
    opened_later g.S.Store.held g.S.Store.honest g.S.Store.failed (λ d. d.engine.mapping.capacity) c.args.writes c.args.store c.in-Err.back.0 c.args.capacity c.in-Some.stale c.args.share c.open_once.result
    (was_stale g.S.Store.held g.S.Store.honest g.S.Store.failed c.args.store c.in-Err.back.0 c.args.capacity c.args.share c.in-Some.stale c.in-Err.back.1 c.in-Some.ensures c.in-Err.ensures.fault c.in-Err.ensures.given)
    (by_reads g.S.Store.held g.S.Store.honest g.S.Store.failed (λ d. d.engine.mapping.capacity) c.args.writes c.args.capacity c.in-Some.stale c.args.share c.open_once.result c.if-writes.false c.open_once.ensures.entries)

pub returns-then-writes-clause-clear : goal.returns-then-writes-clause-clear
returns-then-writes-clause-clear g c = clear_by (λ d. d.engine.nand.told.at_hand ≡ []) _ _ c.open_stale.result (λ is. c.in-Err.ensures.given.as_honest ∙ is) c.open_stale.ensures.clear

pub returns-else-writes-clause-clear : goal.returns-else-writes-clause-clear
returns-else-writes-clause-clear g c = clear_by (λ d. d.engine.nand.told.at_hand ≡ []) _ _ c.open_once.result (λ is. c.in-Err.ensures.given.as_honest ∙ is) c.open_once.ensures.clear
