use Rattle.std.proofs.Common.{inl}
use Rattle.disk_server.specs.Asked.{AsksSectors}
use Rattle.disk_commands.proofs.ServeLemmas.{was_read, was_written}
use Rattle.disk_commands.proofs.serve.serve_client.Goals as goal

pub returns-then-terms-clause-served : goal.returns-then-terms-clause-served
returns-then-terms-clause-served g c =
    inl
    (was_read g.S.Sectors.contents g.S.Sectors.honest
    (AsksSectors g.S.Sectors.contents g.S.Sectors.honest g.S.Sectors.reads g.S.Sectors.changes g.S.Sectors.flushes) g.S.Sectors.rests
    g.S.Sectors.reads g.S.Sectors.next g.S.Sectors.takes g.Y.Syncs.synced g.Y.Syncs.failed g.Y.Syncs.marked c.args.terms c.args.path
    c.args.opened.0 c.args.opened.1 _ _ _ _
    c.serve_only_reading.result c.if-terms.true c.serve_only_reading.ensures.served)

pub returns-clause-served : goal.returns-clause-served
returns-clause-served g c =
    inl
    (was_written g.S.Sectors.contents g.S.Sectors.honest
    (AsksSectors g.S.Sectors.contents g.S.Sectors.honest g.S.Sectors.reads g.S.Sectors.changes g.S.Sectors.flushes) g.S.Sectors.rests
    g.S.Sectors.reads g.S.Sectors.next g.S.Sectors.takes g.Y.Syncs.synced g.Y.Syncs.failed g.Y.Syncs.marked c.args.terms c.args.path
    c.args.opened.0 c.args.opened.1 _ _ _ _
    c.serve_writing.result c.if-terms.false c.serve_writing.ensures.served)
