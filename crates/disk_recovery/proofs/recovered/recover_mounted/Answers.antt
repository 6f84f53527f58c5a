use Rattle.std.proofs.Common.{◌≡◌, ◌∙◌, [], inl, true}
use Rattle.disk_server.specs.Disk.{contents_of}
use Rattle.disk_server.specs.Opened.{view_in}
use Rattle.disk_server.proofs.FaultLemmas.{clear_by}
use Rattle.disk_recovery.proofs.RecoveredLemmas.{left_once, left_twice, opened_bytes, opened_entries, opened_fault}
use Rattle.disk_recovery.proofs.recovered.recover_mounted.Goals as goal

pub returns-then-not-changed-clause-bytes : goal.returns-then-not-changed-clause-bytes
returns-then-not-changed-clause-bytes g c =
    let held = g.S.Store.held in
    let honest = g.S.Store.honest in
    let failed = g.S.Store.failed in
    opened_bytes (λ d. (contents_of (view_in held honest failed) d).bytes) held (honest c.args.store ≡ true) (honest c.recover_once.new.store ≡ true) c.args.store c.recover_once.new.store c.args.mark c.open_stopped.result
    (λ h. c.in-Ok.ensures.honest ∙ h)
    (λ h. left_once c.args.mark (held c.args.store) (held c.recover_once.new.store) c.in-Ok.changed c.if-not-changed.true (c.in-Ok.ensures.recovered h))
    c.open_stopped.ensures.bytes

pub returns-then-not-changed-clause-fault : goal.returns-then-not-changed-clause-fault
returns-then-not-changed-clause-fault g c =
    let held = g.S.Store.held in
    opened_fault held g.S.Store.honest g.S.Store.failed c.args.store c.recover_once.new.store c.args.capacity c.args.share c.args.mark c.open_stopped.result c.in-Ok.ensures.honest
    (λ h. left_once c.args.mark (held c.args.store) (held c.recover_once.new.store) c.in-Ok.changed c.if-not-changed.true (c.in-Ok.ensures.recovered h))
    c.open_stopped.ensures.fault

pub returns-then-not-changed-clause-entries : goal.returns-then-not-changed-clause-entries
returns-then-not-changed-clause-entries g c =
    let held = g.S.Store.held in
    opened_entries _ held g.S.Store.honest g.S.Store.failed c.args.store c.recover_once.new.store c.args.capacity c.args.share c.args.mark c.open_stopped.result c.in-Ok.ensures.honest
    (λ h. left_once c.args.mark (held c.args.store) (held c.recover_once.new.store) c.in-Ok.changed c.if-not-changed.true (c.in-Ok.ensures.recovered h))
    c.open_stopped.ensures.entries

pub returns-in-Ok-recover_again-clause-bytes : goal.returns-in-Ok-recover_again-clause-bytes
returns-in-Ok-recover_again-clause-bytes g c =
    let held = g.S.Store.held in
    let honest = g.S.Store.honest in
    let failed = g.S.Store.failed in
    let left = c.in-Ok-recover_again.left in
    opened_bytes (λ d. (contents_of (view_in held honest failed) d).bytes) held (honest c.args.store ≡ true) (honest left ≡ true) c.args.store left c.args.mark c.open_stopped-in-Ok-recover_again.result
    (λ h. c.in-Ok-recover_again.ensures.honest ∙ (c.in-Ok.ensures.honest ∙ h))
    (λ h. left_twice c.args.mark (held c.args.store) (held c.recover_once.new.store) (held left) c.in-Ok.changed c.if-not-changed.false (c.in-Ok.ensures.recovered h)
    (c.in-Ok-recover_again.ensures.recovered (c.in-Ok.ensures.honest ∙ h)))
    c.open_stopped-in-Ok-recover_again.ensures.bytes

pub returns-in-Ok-recover_again-clause-fault : goal.returns-in-Ok-recover_again-clause-fault
returns-in-Ok-recover_again-clause-fault g c =
    let held = g.S.Store.held in
    let left = c.in-Ok-recover_again.left in
    opened_fault held g.S.Store.honest g.S.Store.failed c.args.store left c.args.capacity c.args.share c.args.mark c.open_stopped-in-Ok-recover_again.result (c.in-Ok-recover_again.ensures.honest ∙ c.in-Ok.ensures.honest)
    (λ h. left_twice c.args.mark (held c.args.store) (held c.recover_once.new.store) (held left) c.in-Ok.changed c.if-not-changed.false (c.in-Ok.ensures.recovered h)
    (c.in-Ok-recover_again.ensures.recovered (c.in-Ok.ensures.honest ∙ h)))
    c.open_stopped-in-Ok-recover_again.ensures.fault

pub returns-in-Ok-recover_again-clause-entries : goal.returns-in-Ok-recover_again-clause-entries
returns-in-Ok-recover_again-clause-entries g c =
    let held = g.S.Store.held in
    let left = c.in-Ok-recover_again.left in
    opened_entries _ held g.S.Store.honest g.S.Store.failed c.args.store left c.args.capacity c.args.share c.args.mark c.open_stopped-in-Ok-recover_again.result (c.in-Ok-recover_again.ensures.honest ∙ c.in-Ok.ensures.honest)
    (λ h. left_twice c.args.mark (held c.args.store) (held c.recover_once.new.store) (held left) c.in-Ok.changed c.if-not-changed.false (c.in-Ok.ensures.recovered h)
    (c.in-Ok-recover_again.ensures.recovered (c.in-Ok.ensures.honest ∙ h)))
    c.open_stopped-in-Ok-recover_again.ensures.entries

pub returns-then-not-changed-clause-clear : goal.returns-then-not-changed-clause-clear
returns-then-not-changed-clause-clear g c = clear_by (λ d. d.engine.nand.told.at_hand ≡ []) _ _ c.open_stopped.result (λ h. c.in-Ok.ensures.honest ∙ h) c.open_stopped.ensures.clear

pub returns-in-Ok-recover_again-clause-clear : goal.returns-in-Ok-recover_again-clause-clear
returns-in-Ok-recover_again-clause-clear g c =
    clear_by (λ d. d.engine.nand.told.at_hand ≡ []) _ _ c.open_stopped-in-Ok-recover_again.result (λ h. c.in-Ok-recover_again.ensures.honest ∙ (c.in-Ok.ensures.honest ∙ h)) c.open_stopped-in-Ok-recover_again.ensures.clear
