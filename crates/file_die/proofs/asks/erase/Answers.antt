use Rattle.std.proofs.Common.{rules, true, false}
use Rattle.file_die.specs.Store.{Syncs, Clears}
use Rattle.file_die.proofs.AskLemmas.{erases_failed, erases_synced}
use Rattle.file_die.proofs.asks.erase.Goals as goal

pub returns-then-is_err-clause-erases : goal.returns-then-is_err-clause-erases
returns-then-is_err-clause-erases g c h =
    let held = g.S.Store.held in
    let one : Syncs (held c.args.store.now) true (held c.sync.new.store) = search rules in
    let two : Clears (held c.sync.new.store) c.args.block false (held c.clear.new.self) = search rules in
    erases_failed _ _ _ c.args.block (c.requires.images h) one c.sync.ensures.asks.geometry two

pub returns-clause-erases : goal.returns-clause-erases
returns-clause-erases g c h =
    let held = g.S.Store.held in
    let one : Syncs (held c.args.store.now) true (held c.sync.new.store) = search rules in
    let two : Clears (held c.sync.new.store) c.args.block true (held c.clear.new.self) = search rules in
    erases_synced _ _ _ _ c.args.block _ (c.requires.images h) c.requires.in_range one c.sync.ensures.asks.geometry two (c.sync-2.ensures.syncs (search rules))
