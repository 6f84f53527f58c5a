use Rattle.std.proofs.Common.{[], subst, sym}
use Rattle.nbd_stream.specs.declared.task.Task.TheVariants.{Trim}
use Rattle.nbd_stream.specs.Disk.{PerformsTask, answer_from}
use Rattle.disk_server.proofs.ChangeLemmas.{cleared_lasts, set_and_flushed}
use Rattle.disk_server.proofs.ranges.clear_range.Goals as goal

pub returns-in-Ok-clause-asks : goal.returns-in-Ok-clause-asks
returns-in-Ok-clause-asks g c = set_and_flushed g.S.Sectors.reads g.S.Sectors.changes g.S.Sectors.flushes c.args.durable c.args.sectors.now c.flush.new.self c.clear_pieces.new.sectors c.flush.result c.if-durable.true c.in-Ok.ensures.asks c.flush.ensures.flushes

pub returns-in-Ok-clause-performs : goal.returns-in-Ok-clause-performs
returns-in-Ok-clause-performs g c =
    let sectors = g.S.Sectors in
    subst (λ durable. PerformsTask sectors.contents sectors.honest sectors.calm (Trim c.args.offset c.args.count durable) [] c.args.sectors.now (answer_from c.flush.result []) c.flush.new.self) (sym c.if-durable.true)
    (cleared_lasts sectors.contents sectors.honest sectors.calm c.args.offset c.args.count c.args.sectors.now c.clear_pieces.new.sectors c.flush.new.self c.flush.result c.in-Ok.ensures.performs c.flush.ensures.performs)
