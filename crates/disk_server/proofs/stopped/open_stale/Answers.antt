use Rattle.std.proofs.Common.{◌≡◌, [], inl, inr, refl, Ok, Err, ◌∙◌}
use Rattle.disk_server.specs.Stopped.{AsksToFlush}
use Rattle.disk_server.proofs.FaultLemmas.{clear_by}
use Rattle.disk_server.proofs.StoppedLemmas.{held_again, reopened, then_opened, then_unopened}
use Rattle.disk_server.proofs.stopped.open_stale.Goals as goal

pub returns-in-Err-clause-fault : goal.returns-in-Err-clause-fault
returns-in-Err-clause-fault g c = inl (c.in-Err.ensures.fault, c.in-Err.ensures.given)

pub returns-in-Err-flush-clause-fault : goal.returns-in-Err-flush-clause-fault
returns-in-Err-flush-clause-fault g c =
    let asks : AsksToFlush g.S.Store.held g.S.Store.honest g.S.Store.failed c.args.stale c.args.share (Err c.in-Err-flush.field-0) c.flush.new.disk = record { opened = c.in-Ok.disk; entries_are = c.in-Ok.ensures.entries; share_is = c.in-Ok.ensures.share; flush = c.in-Err-flush.ensures.does } in
    inr (inl (c.in-Err-flush.field-0, c.flush.new.disk, asks, c.close_store-in-Err-flush.ensures.store, refl))

pub returns-in-Ok-flush : goal.returns-in-Ok-flush
returns-in-Ok-flush g c =
    let asks : AsksToFlush g.S.Store.held g.S.Store.honest g.S.Store.failed c.args.stale c.args.share (Ok tt) c.flush.new.disk = record { opened = c.in-Ok.disk; entries_are = c.in-Ok.ensures.entries; share_is = c.in-Ok.ensures.share; flush = c.in-Ok-flush.ensures.does } in
    record {
      syncs = c.open_either.ensures.syncs;
      honest = held_again _ _ _ c.open_either.result (λ honest. c.close_store.ensures.honest (c.in-Ok-flush.ensures.kept ∙ c.in-Ok.ensures.honest ∙ honest)) c.open_either.ensures.honest;
      bytes = reopened _ _ _ _ _ _ c.open_either.result (λ honest. c.in-Ok-flush.ensures.kept ∙ c.in-Ok.ensures.honest ∙ honest)
          (λ honest held. c.close_store.ensures.bytes held ∙ c.flush.ensures.bytes held ∙ c.in-Ok.ensures.bytes honest)
          c.close_store.ensures.honest c.open_either.ensures.bytes;
      clear = clear_by (λ d. d.engine.nand.told.at_hand ≡ []) _ _ c.open_either.result (λ honest. c.close_store.ensures.honest (c.in-Ok-flush.ensures.kept ∙ c.in-Ok.ensures.honest ∙ honest)) c.open_either.ensures.clear;
      share = c.open_either.ensures.share;
      entries = then_opened g.S.Store.held g.S.Store.honest g.S.Store.failed (λ d. d.engine.mapping.capacity) c.args.capacity c.args.stale c.args.share c.flush.new.disk asks c.close_store.result c.close_store.ensures.store c.open_either.result c.open_either.ensures.entries;
      fault = then_unopened g.S.Store.held g.S.Store.honest g.S.Store.failed (λ d. d.engine.mapping.capacity) c.args.capacity c.args.stale c.args.share c.flush.new.disk asks c.close_store.result c.close_store.ensures.store c.args.store c.open_either.result c.open_either.ensures.fault;
    }
