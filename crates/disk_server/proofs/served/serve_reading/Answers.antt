use Rattle.std.proofs.Common.{false, ap, ◌∙◌, subst, length}
use Rattle.nbd_stream.specs.declared.export.Export.{Export}
use Rattle.nbd_stream.specs.Transmission.{Serves}
use Rattle.disk_server.specs.Reading.{OnlyAsksReads, RestsNever}
use Rattle.disk_server.specs.Synced.{export_of}
use Rattle.disk_server.proofs.ReadingLemmas.{flattened}
use Rattle.disk_server.proofs.served.serve_reading.Goals as goal

pub returns-clause-serves : goal.returns-clause-serves
returns-clause-serves g c =
    subst (λ (e : Export). Serves g.S.Sectors.contents g.S.Sectors.honest (λ s. false) (OnlyAsksReads g.S.Sectors.reads) RestsNever e (length c.serve.new.buffer) c.args.disk.now c.serve.new.disk
    (g.R.Read.remaining c.args.reader.now) (g.R.Read.remaining c.serve.new.reader) (g.W.Write.contents c.args.writer.now) (g.W.Write.contents c.serve.new.writer) c.serve.result)
    (c.export_of-export.ensures ∙ ap (export_of c.args.offer) c.bytes.ensures) c.serve.ensures.serves

pub returns-clause-reads : goal.returns-clause-reads
returns-clause-reads g c =
    flattened g.S.Sectors.reads c.args.disk.now c.serve.new.disk (c.serve.ensures.leaves (ap (λ (e : Export). e.read_only) c.export_of-export.ensures ∙ c.requires.read_only))
