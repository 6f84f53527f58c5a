use Rattle.std.proofs.Common.{◌∙◌, false, length, subst}
use Rattle.nbd_stream.specs.Transmission.{Serves}
use Rattle.nbd_stream.specs.Through.{Through}
use Rattle.disk_server.specs.Reading.{OnlyAsksReads, RestsNever}
use Rattle.disk_server.specs.Synced.{export_of}
use Rattle.disk_commands.proofs.ServeLemmas.{limited, stops_ended}
use Rattle.disk_commands.proofs.serve.serve_only_reading.Goals as goal

pub returns-clause-served : goal.returns-clause-served
returns-clause-served g c = record {
  last = c.serve_reading.new.disk;
  answer = c.serve_reading.result;
  serves = subst (λ d. Serves g.S.Sectors.contents g.S.Sectors.honest (λ s. false) (OnlyAsksReads g.S.Sectors.reads) RestsNever (export_of c.args.terms.offer (length (g.S.Sectors.contents d).bytes)) c.args.terms.offer.maximum d c.serve_reading.new.disk
      (g.I.Read.remaining c.args.input.now) (g.I.Read.remaining c.serve_reading.new.reader) (g.O.Write.contents c.args.out.now) (g.O.Write.contents c.serve_reading.new.writer) c.serve_reading.result)
      c.new-disk.ensures (limited _ _ _ _ _ _ _ _ _ _ _ _ _ _ c.serve_reading.result (c.serve_reading.auto.buffer ∙ c.requires.room) c.serve_reading.ensures.serves);
  only_read = subst (λ d. Through g.S.Sectors.reads d c.serve_reading.new.disk) c.new-disk.ensures c.serve_reading.ensures.reads;
  told = c.end_of.ensures;
}

pub returns-clause-stops : goal.returns-clause-stops
returns-clause-stops g c = stops_ended _ c.serve_reading.result c.end_of.result c.serve_reading.ensures.stops c.end_of.ensures
