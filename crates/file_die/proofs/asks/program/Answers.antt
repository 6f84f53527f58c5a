use Rattle.std.proofs.Common.{subst, ◌∙◌, Bool}
use Rattle.onfi_cycles.specs.Cycles.{page_of}
use Rattle.file_die.specs.Store.{Puts}
use Rattle.file_die.proofs.AskLemmas.{asks_done, asks_failed, asks_then, done_by, failed_by, not_done, programs_failed, programs_put, programs_synced, was_done}
use Rattle.file_die.proofs.asks.program.Goals as goal

pub returns-then-is_err : goal.returns-then-is_err
returns-then-is_err g c =
    let put = c.put.ensures in
    record {
      asks = asks_failed g.S.Store.held g.S.Store.honest g.S.Store.failed c.args.store.now c.put.new.self put.geometry put.honest put.failed (failed_by c.put.result c.is_err.result c.is_err.ensures.value c.if-is_err.true put.rose);
      programs = λ h. programs_failed _ _ c.args.row _ c.args.sync_when _ (not_done c.put.result c.is_err.result c.is_err.ensures.value c.if-is_err.true) (put.puts h);
    }

pub returns-in-Always : goal.returns-in-Always
returns-in-Always g c =
    let held = g.S.Store.held in
    let put = c.put.ensures in
    let page = page_of (held c.args.store.now).geometry c.args.page.now in
    let ok = was_done c.put.result c.is_err.result c.is_err.ensures.value c.if-is_err.false in
    record {
      asks = asks_then held g.S.Store.honest g.S.Store.failed c.args.store.now c.put.new.self c.sync.new.store c.sync.result put.geometry put.honest (done_by c.put.result c.is_err.result c.is_err.ensures.value c.if-is_err.false put.settled) c.sync.ensures.asks;
      programs = λ h. programs_synced _ _ _ c.args.row page c.args.sync_when _ (c.requires.images h) c.requires.in_range
          (subst (λ (d : Bool). Puts (held c.args.store.now) c.args.row page d (held c.put.new.self)) ok (put.puts h)) (c.sync.ensures.syncs (put.honest ∙ h));
    }

pub returns-in-Erases : goal.returns-in-Erases
returns-in-Erases g c =
    let put = c.put.ensures in
    record {
      asks = asks_done g.S.Store.held g.S.Store.honest g.S.Store.failed c.args.store.now c.put.new.self put.geometry put.honest put.failed (done_by c.put.result c.is_err.result c.is_err.ensures.value c.if-is_err.false put.settled);
      programs = λ h. programs_put _ _ c.args.row _ c.args.sync_when _ (was_done c.put.result c.is_err.result c.is_err.ensures.value c.if-is_err.false) (put.puts h) c.in-Erases.is;
    }
