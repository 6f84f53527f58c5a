use Rattle.disk_server.proofs.ChangeLemmas.{set_and_flushed}
use Rattle.disk_server.proofs.ranges.write_range.Goals as goal

pub returns-in-Ok-clause-asks : goal.returns-in-Ok-clause-asks
returns-in-Ok-clause-asks g c = set_and_flushed g.S.Sectors.reads g.S.Sectors.changes g.S.Sectors.flushes c.args.durable c.args.sectors.now c.flush.new.self c.write_pieces.new.sectors c.flush.result c.if-durable.true c.in-Ok.ensures.asks c.flush.ensures.flushes
