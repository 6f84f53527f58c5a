use Rattle.std.proofs.Common.{inr, refl}
use Rattle.std.proofs.KnownBytes.{Keeps-refl}
use Rattle.disk_server.proofs.FaultLemmas.{is_handed_on}
use Rattle.disk_commands.proofs.ServeLemmas.{served_at, unready_stops}
use Rattle.disk_commands.proofs.serve.serve_command.Goals as goal

pub returns-in_err-disk : goal.returns-in_err-disk
returns-in_err-disk g c =
    let store = g.F.Store.Store in
    let why = c.in_err-disk.ensures in
    rw (is_handed_on _ _ c.from_residual.ensures.1) (record {
      served = inr (record { told = c.in_err-disk.field-0.0; is = refl; why = why.fault; silent = Keeps-refl (g.O.Write.contents c.args.out.now); unnamed = why.unnamed });
      stops = unready_stops _ store.held store.honest store.failed g.F.Syncs.Syncs.failed g.F.Lists.KeepsLost.kept g.F.Lists.ListPlace.says g.F.Lists.KeepsLost.failed (g.F.DiskFiles.answers c.args.files.now)
          c.args.words.disk.now c.args.words.read_only c.in_err-disk.field-0.0 why.fault;
      opened = why.opened;
      kept = why.kept;
    })

pub returns : goal.returns
returns g c =
    let store = g.F.Store.Store in
    let syncs = g.F.Syncs.Syncs in
    let ready = c.in_ok-disk in
    record {
      served = served_at store.held store.honest g.F.Store.TellsFull.full g.F.Store.TellsMended.mended store.failed syncs.synced syncs.failed syncs.marked g.F.Lists.KeepsLost.kept g.F.Lists.ListPlace.says g.F.Lists.KeepsLost.failed
          (g.F.DiskFiles.answers c.args.files.now) c.args.words ready.told _ ready.disk ready.syncs
          c.terms_of-terms.result _ _ _ _ _ _ c.serve_client.result ready.ensures.ok ready.ensures.named c.terms_of-terms.ensures c.serve_client.ensures.served;
      stops = c.serve_client.ensures.stops;
      opened = ready.ensures.opened;
      kept = ready.ensures.kept;
    }
