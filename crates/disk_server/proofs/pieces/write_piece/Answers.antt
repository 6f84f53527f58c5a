use Rattle.std.proofs.Common.{◌≡◌, ◌∙◌, ◌+◌, ◌-◌, ◌*◌, ◌%◌, ℕ, [], false, ap, length, sym, subst, arith}
use Rattle.nbd_stream.specs.Disk.{PerformsTask, answer_from}
use Rattle.nbd_stream.specs.declared.task.Task.TheVariants.{Write}
use Rattle.disk_server.proofs.ChangeLemmas.{a_change, a_failed_read, read_then_change}
use Rattle.disk_server.proofs.Joining.{piece_written}
use Rattle.disk_server.proofs.pieces.write_piece.Goals as goal

pub returns-in-Ok-clause-performs : goal.returns-in-Ok-clause-performs
returns-in-Ok-clause-performs g c =
    let bytes = c.sector_bytes-size.ensures in
    let counts = c.sector_count-count.ensures in
    let size : ℕ = g.S.Sectors.size c.args.sectors.now in
    let start : ℕ = c.args.offset % c.sector_bytes-size.result in
    let long : ℕ = length c.args.bytes.now in
    let lent : (start + long) - start ≡ long = omega arith in
    let is : c.copy_from_slice.new.self ≡ c.args.bytes.now = c.copy_from_slice.ensures.after in
    subst (λ l. PerformsTask g.S.Sectors.contents g.S.Sectors.honest g.S.Sectors.calm (Write c.args.offset long false) l c.args.sectors.now
    (answer_from c.write_sector-in-Ok.result []) c.write_sector-in-Ok.new.self) is (
    piece_written g.S.Sectors.contents g.S.Sectors.honest g.S.Sectors.calm c.args.offset c.sector_bytes-size.result size _ c.sector_count-count.result long
    c.args.sectors.now c.read_sector.new.self c.write_sector-in-Ok.new.self
    bytes.size c.in-Ok.ensures.size (counts.whole ∙ ap (λ k. k * size) (sym counts.count)) c.if-prove.false c.requires.inside
    c.copy_from_slice.new.self c.read_sector.new.buffer ((start + long) - start) _ (ap length (sym is)) lent c.in-Ok.ensures.performs c.write_sector-in-Ok.ensures.performs
    )

pub returns-then-bytes-size-clause-asks : goal.returns-then-bytes-size-clause-asks
returns-then-bytes-size-clause-asks g c = a_change g.S.Sectors.reads g.S.Sectors.changes c.args.sectors.now c.write_sector.new.self c.write_sector.result c.write_sector.ensures.changes

pub returns-in-Ok-clause-asks : goal.returns-in-Ok-clause-asks
returns-in-Ok-clause-asks g c = read_then_change g.S.Sectors.reads g.S.Sectors.changes c.args.sectors.now c.read_sector.new.self c.write_sector-in-Ok.new.self c.write_sector-in-Ok.result c.in-Ok.ensures.reads c.write_sector-in-Ok.ensures.changes

pub returns-in-Err-clause-asks : goal.returns-in-Err-clause-asks
returns-in-Err-clause-asks g c = a_failed_read g.S.Sectors.reads g.S.Sectors.changes c.args.sectors.now c.read_sector.new.self c.in-Err.fault c.in-Err.ensures.performs.fault c.in-Err.ensures.reads
