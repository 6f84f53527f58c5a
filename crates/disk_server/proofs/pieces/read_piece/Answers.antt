use Rattle.std.proofs.Common.{◌∙◌, ◌*◌, ℕ, ap, length, sym}
use Rattle.disk_server.proofs.Joining.{piece_given}
use Rattle.disk_server.proofs.pieces.read_piece.Goals as goal

pub returns-in-Ok-clause-performs : goal.returns-in-Ok-clause-performs
returns-in-Ok-clause-performs g c =
    let bytes = c.sector_bytes-size.ensures in
    let counts = c.sector_count-count.ensures in
    let size : ℕ = g.S.Sectors.size c.args.sectors.now in
    let given = c.in-Ok.ensures.performs.given in
    piece_given g.S.Sectors.contents g.S.Sectors.honest g.S.Sectors.calm c.args.offset c.sector_bytes-size.result size _ c.sector_count-count.result (length c.args.out.now)
    c.args.sectors.now c.read_sector-2.new.self c.read_sector-2.new.self bytes.size c.in-Ok.ensures.size (counts.whole ∙ ap (λ k. k * size) (sym counts.count)) c.if-prove.false c.requires.inside
    c.read_sector-2.new.buffer c.copy_from_slice.new.self given c.copy_from_slice.ensures.after c.in-Ok.ensures.performs
