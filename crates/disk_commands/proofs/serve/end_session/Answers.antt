use Rattle.std.proofs.Common.{refl}
use Rattle.disk_server.specs.Asked.{AsksSectors}
use Rattle.disk_commands.proofs.ServeLemmas.{closed}
use Rattle.disk_commands.proofs.serve.end_session.Goals as goal

pub returns-in-Ok : goal.returns-in-Ok
returns-in-Ok g c =
    closed g.S.Sectors.contents g.S.Sectors.honest (AsksSectors g.S.Sectors.contents g.S.Sectors.honest g.S.Sectors.reads g.S.Sectors.changes g.S.Sectors.flushes) g.S.Sectors.next g.S.Sectors.takes
    g.Y.Syncs.synced g.Y.Syncs.failed g.Y.Syncs.marked c.args.marked c.args.path c.args.disk.now c.close.new.self c.args.served c.close.result _ c.end_of.result
    c.close.ensures.performs c.close.ensures.closes c.in-Ok.is c.end_of.ensures

pub returns-in-Err : goal.returns-in-Err
returns-in-Err g c =
    closed g.S.Sectors.contents g.S.Sectors.honest (AsksSectors g.S.Sectors.contents g.S.Sectors.honest g.S.Sectors.reads g.S.Sectors.changes g.S.Sectors.flushes) g.S.Sectors.next g.S.Sectors.takes
    g.Y.Syncs.synced g.Y.Syncs.failed g.Y.Syncs.marked c.args.marked c.args.path c.args.disk.now c.close.new.self c.args.served c.close.result _ _
    c.close.ensures.performs c.close.ensures.closes c.in-Err.is refl
