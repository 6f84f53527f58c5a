use Rattle.std.proofs.Common.{◌≡◌, ◌≤◌, ◌∙◌, ◌+◌, ◌-◌, ◌*◌, ◌%◌, ℕ, [], false, ap, length, replicate, refl, sym, subst, arith}
use Rattle.std.proofs.lemmas.List.{length-replicate}
use Rattle.nbd_stream.specs.Disk.{PerformsTask, answer_from}
use Rattle.nbd_stream.specs.declared.task.Task.TheVariants.{Write}
use Rattle.disk_server.proofs.ChangeLemmas.{a_change, a_failed_read, a_read, read_then_change}
use Rattle.disk_server.proofs.ClearLemmas.{all_zeros, no_zeros, zeros_read}
use Rattle.disk_server.proofs.Joining.{piece_clears, piece_given, piece_written, range_long, writes_trim}
use Rattle.disk_server.proofs.pieces.clear_piece.Goals as goal

pub returns-then-are_zeros-clause-performs : goal.returns-then-are_zeros-clause-performs
returns-then-are_zeros-clause-performs g c =
    let bytes = c.sector_bytes-size.ensures in
    let counts = c.sector_count-count.ensures in
    let size : ℕ = g.S.Sectors.size c.args.sectors.now in
    let start : ℕ = c.args.offset % c.sector_bytes-size.result in
    let long : ℕ = c.args.taken in
    let read : length c.read_sector.new.buffer ≡ size = c.in-Ok.ensures.performs.given in
    let start_is : start ≡ c.args.offset % size = ap (λ k. c.args.offset % k) bytes.size in
    let room : start + long ≤ length c.read_sector.new.buffer = omega (arith, read, start_is, c.requires.inside) in
    piece_clears g.S.Sectors.contents g.S.Sectors.honest g.S.Sectors.calm c.args.offset c.sector_bytes-size.result size _ c.sector_count-count.result long
    c.args.sectors.now c.read_sector.new.self c.read_sector.new.self bytes.size c.in-Ok.ensures.size (counts.whole ∙ ap (λ k. k * size) (sym counts.count)) c.if-prove.false c.requires.inside
    c.read_sector.new.buffer read (all_zeros _ (sym c.are_zeros.ensures ∙ c.if-are_zeros.true) ∙ ap (λ k. replicate k 0) (range_long start long c.read_sector.new.buffer room)) c.in-Ok.ensures.performs

pub returns-then-are_zeros-clause-spares : goal.returns-then-are_zeros-clause-spares
returns-then-are_zeros-clause-spares g c = λ h zeros. c.in-Ok.ensures.reads

pub returns-in-Err-clause-spares : goal.returns-in-Err-clause-spares
returns-in-Err-clause-spares g c = λ h zeros. c.in-Err.ensures.reads

pub returns-else-are_zeros-clause-spares : goal.returns-else-are_zeros-clause-spares
returns-else-are_zeros-clause-spares g c = λ h zeros.
    let bytes = c.sector_bytes-size.ensures in
    let counts = c.sector_count-count.ensures in
    let size : ℕ = g.S.Sectors.size c.args.sectors.now in
    let start : ℕ = c.args.offset % c.sector_bytes-size.result in
    let long : ℕ = c.args.taken in
    let given = piece_given g.S.Sectors.contents g.S.Sectors.honest g.S.Sectors.calm c.args.offset c.sector_bytes-size.result size _ c.sector_count-count.result long
    c.args.sectors.now c.read_sector.new.self c.read_sector.new.self bytes.size c.in-Ok.ensures.size (counts.whole ∙ ap (λ k. k * size) (sym counts.count)) c.if-prove.false c.requires.inside
    c.read_sector.new.buffer _ c.in-Ok.ensures.performs.given refl c.in-Ok.ensures.performs in
    absurd (no_zeros long _ (sym c.are_zeros.ensures ∙ c.if-are_zeros.false)
    (zeros_read g.S.Sectors.contents g.S.Sectors.honest g.S.Sectors.calm c.args.offset long c.args.sectors.now c.read_sector.new.self _ c.requires.within given (c.write_sector.ensures.performs.back h) zeros))

pub returns-else-are_zeros-clause-performs : goal.returns-else-are_zeros-clause-performs
returns-else-are_zeros-clause-performs g c =
    let bytes = c.sector_bytes-size.ensures in
    let counts = c.sector_count-count.ensures in
    let size : ℕ = g.S.Sectors.size c.args.sectors.now in
    let start : ℕ = c.args.offset % c.sector_bytes-size.result in
    let long : ℕ = c.args.taken in
    let lent : (start + long) - start ≡ long = omega arith in
    let read : length c.read_sector.new.buffer ≡ size = c.in-Ok.ensures.performs.given in
    let start_is : start ≡ c.args.offset % size = ap (λ k. c.args.offset % k) bytes.size in
    let room : start + long ≤ length c.read_sector.new.buffer = omega (arith, read, start_is, c.requires.inside) in
    let is : c.fill.new.self ≡ replicate long 0 = c.fill.ensures.after (λ y e. e) ∙ ap (λ k. replicate k 0) (range_long start long c.read_sector.new.buffer room) in
    let zeros : long ≡ length c.fill.new.self = sym (ap length is ∙ length-replicate long 0) in
    writes_trim g.S.Sectors.contents g.S.Sectors.honest g.S.Sectors.calm c.args.offset long false c.args.sectors.now c.write_sector.new.self (answer_from c.write_sector.result []) (
    subst (λ l. PerformsTask g.S.Sectors.contents g.S.Sectors.honest g.S.Sectors.calm (Write c.args.offset long false) l c.args.sectors.now
    (answer_from c.write_sector.result []) c.write_sector.new.self) is (
    piece_written g.S.Sectors.contents g.S.Sectors.honest g.S.Sectors.calm c.args.offset c.sector_bytes-size.result size _ c.sector_count-count.result long
    c.args.sectors.now c.read_sector.new.self c.write_sector.new.self
    bytes.size c.in-Ok.ensures.size (counts.whole ∙ ap (λ k. k * size) (sym counts.count)) c.if-prove.false c.requires.inside
    c.fill.new.self c.read_sector.new.buffer ((start + long) - start) _ zeros lent c.in-Ok.ensures.performs c.write_sector.ensures.performs
    )
    )

pub returns-then-taken-size-clause-asks : goal.returns-then-taken-size-clause-asks
returns-then-taken-size-clause-asks g c = a_change g.S.Sectors.reads g.S.Sectors.changes c.args.sectors.now c.clear_sector.new.self c.clear_sector.result c.clear_sector.ensures.changes

pub returns-then-are_zeros-clause-asks : goal.returns-then-are_zeros-clause-asks
returns-then-are_zeros-clause-asks g c = a_read g.S.Sectors.reads g.S.Sectors.changes c.args.sectors.now c.read_sector.new.self c.in-Ok.ensures.reads

pub returns-else-are_zeros-clause-asks : goal.returns-else-are_zeros-clause-asks
returns-else-are_zeros-clause-asks g c = read_then_change g.S.Sectors.reads g.S.Sectors.changes c.args.sectors.now c.read_sector.new.self c.write_sector.new.self c.write_sector.result c.in-Ok.ensures.reads c.write_sector.ensures.changes

pub returns-in-Err-clause-asks : goal.returns-in-Err-clause-asks
returns-in-Err-clause-asks g c = a_failed_read g.S.Sectors.reads g.S.Sectors.changes c.args.sectors.now c.read_sector.new.self c.in-Err.fault c.in-Err.ensures.performs.fault c.in-Err.ensures.reads
