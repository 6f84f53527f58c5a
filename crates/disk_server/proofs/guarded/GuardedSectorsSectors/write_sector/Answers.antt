use Rattle.std.proofs.Common.{◌*◌, false, inl, refl}
use Rattle.nbd_stream.specs.declared.task.Task.TheVariants as task
use Rattle.disk_server.proofs.GuardLemmas.{asked, asked_or, changed_so}
use Rattle.disk_server.proofs.GuardedLemmas.{change_shown, failed_shown}
use Rattle.disk_server.proofs.guarded.GuardedSectorsSectors.write_sector.Goals as goal

pub returns-in-Ok-clause-asked : goal.returns-in-Ok-clause-asked
returns-in-Ok-clause-asked g c going unlisted = asked _ _ _ _ _ _ _ _ c.heal.result (c.heal.ensures.unlisted unlisted).0 c.heal.ensures.sectors c.in-Ok.ensures.performs

pub returns-in-Ok-clause-listed : goal.returns-in-Ok-clause-listed
returns-in-Ok-clause-listed g c going = asked_or _ _ _ _ _ _ _ _ c.heal.result _ _ c.heal.ensures.sectors c.heal.ensures.failed c.in-Ok.ensures.performs

pub returns-in-Ok-clause-performs : goal.returns-in-Ok-clause-performs
returns-in-Ok-clause-performs g c =
    let n = c.args.sector in
    let size = g.S.Sectors.size c.args.self.now.sectors in
    change_shown g.S.Sectors.contents g.S.Sectors.size g.S.Sectors.honest g.K.KeepsLost.kept g.S.Sectors.calm n (task.Write (n * size) size false) c.args.bytes.now c.args.bytes.now
    c.args.self.now (λ l. refl) (λ l. refl) (inl refl) c.know.ensures.some c.requires.whole (g.S.Sectors.count c.args.self.now.sectors) c.requires.within c.know.ensures.whole
    c.write_sector.new.self c.heal.new.self c.in-Ok.ensures.size c.heal.ensures.sectors c.in-Ok.ensures.performs c.heal.result c.heal.ensures.heals c.heal.ensures.unlisted c.heal.ensures.taken c.heal.ensures.fault

pub returns-in-Err-clause-performs : goal.returns-in-Err-clause-performs
returns-in-Err-clause-performs g c =
    let n = c.args.sector in
    let size = g.S.Sectors.size c.args.self.now.sectors in
    failed_shown g.S.Sectors.contents g.S.Sectors.size g.S.Sectors.honest g.S.Sectors.calm n (task.Write (n * size) size false) c.args.bytes.now c.args.bytes.now
    c.args.self.now (λ l. refl) (λ l. refl) c.know.ensures.some c.requires.whole (g.S.Sectors.count c.args.self.now.sectors) c.requires.within c.know.ensures.whole
    (record { sectors = c.write_sector.new.self; keeper = c.args.self.now.keeper; lost = c.args.self.now.lost; failed = c.args.self.now.failed })
    _ c.in-Err.ensures.size refl c.in-Err.ensures.performs

pub returns-in-Ok-clause-changes : goal.returns-in-Ok-clause-changes
returns-in-Ok-clause-changes g c = changed_so g.S.Sectors.changes c.args.self.now c.heal.new.self c.write_sector.new.self c.heal.result _ c.heal.ensures.sectors c.in-Ok.ensures.changes c.heal.ensures.failed c.heal.ensures.fault

pub returns-in-Ok-clause-sets : goal.returns-in-Ok-clause-sets
returns-in-Ok-clause-sets g c = changed_so (g.S.Sectors.sets c.args.sector) c.args.self.now c.heal.new.self c.write_sector.new.self c.heal.result _ c.heal.ensures.sectors c.in-Ok.ensures.sets c.heal.ensures.failed c.heal.ensures.fault
