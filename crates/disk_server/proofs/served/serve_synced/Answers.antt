use Rattle.std.proofs.Common.{false, ap, ◌∙◌, subst, length}
use Rattle.nbd_stream.specs.declared.export.Export.{Export}
use Rattle.nbd_stream.specs.Transmission.{Serves}
use Rattle.disk_server.specs.Asked.{AsksSectors}
use Rattle.disk_server.specs.Synced.{RestsSynced, SyncsTask, export_of}
use Rattle.disk_server.proofs.served.serve_synced.Goals as goal

pub returns-clause-serves : goal.returns-clause-serves
returns-clause-serves g c =
    let contents = g.S.Sectors.contents in
    let size = c.bytes.ensures ∙ ap (λ s. length (contents s).bytes) c.disk.ensures in
    subst (λ (e : Export). Serves (λ s. contents s.disk) (λ s. g.S.Sectors.honest s.disk) (λ s. false)
    (SyncsTask (AsksSectors contents g.S.Sectors.honest g.S.Sectors.reads g.S.Sectors.changes g.S.Sectors.flushes) g.Y.Syncs.synced g.Y.Syncs.failed g.Y.Syncs.marked g.S.Sectors.next) (RestsSynced g.S.Sectors.rests) e (length c.serve.new.buffer) c.args.disk.now c.serve.new.disk
    (g.R.Read.remaining c.args.reader.now) (g.R.Read.remaining c.serve.new.reader) (g.W.Write.contents c.args.writer.now) (g.W.Write.contents c.serve.new.writer) c.serve.result)
    (c.export_of-export.ensures ∙ ap (export_of c.args.offer) size) c.serve.ensures.serves
