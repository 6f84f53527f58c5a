use Rattle.std.proofs.Common.{◌∙◌, ◌*◌, ◌+◌, ◌≤◌, [], length, sym}
use Rattle.nbd_stream.specs.declared.task.Task.TheVariants as task
use Rattle.nbd_stream.specs.Disk.{answer_from}
use Rattle.disk_server.proofs.Bytes.{sector_fits}
use Rattle.disk_server.proofs.GuardedLemmas.{call_shown, read_steps}
use Rattle.disk_server.proofs.guarded.GuardedSectorsSectors.read_sector.Goals as goal

pub returns-clause-performs : goal.returns-clause-performs
returns-clause-performs g c =
    let p = c.read_sector.ensures.performs in
    let n = c.args.sector in
    let size = g.S.Sectors.size c.args.self.now.sectors in
    let fits : n * size + size ≤ length (g.S.Sectors.contents c.args.self.now.sectors).bytes = sector_fits n (g.S.Sectors.count c.args.self.now.sectors) size _ c.requires.within c.know.ensures.whole in
    call_shown g.S.Sectors.contents g.S.Sectors.size g.S.Sectors.honest (task.Read (n * size) size) [] c.args.self.now (answer_from c.read_sector.result c.read_sector.new.buffer)
    (record { sectors = c.read_sector.new.self; keeper = c.args.self.now.keeper; lost = c.args.self.now.lost; failed = c.args.self.now.failed })
    c.read_sector.ensures.size p.sized p.kept p.back p.fault p.given
    (λ h. read_steps size n c.args.self.now.lost.items (g.S.Sectors.contents c.args.self.now.sectors) (g.S.Sectors.contents c.read_sector.new.self) (answer_from c.read_sector.result c.read_sector.new.buffer) fits p.sized
    (sym c.is_listed.ensures ∙ c.if-is_listed.false) (p.steps h))
