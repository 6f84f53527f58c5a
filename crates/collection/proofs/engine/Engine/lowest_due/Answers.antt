use Rattle.std.proofs.Common.{ap, ◌∙◌, arith}
use Rattle.page_layout.specs.Geometry.{waiting_at}
use Rattle.collection.specs.Safe.{ram}
use Rattle.collection.proofs.Overs.{over_match}
use Rattle.collection.proofs.engine.Engine.lowest_due.Goals as goal

pub returns-then-moved_count-most : goal.returns-then-moved_count-most
returns-then-moved_count-most g c =
    let more = c.if-moved_count-most.true in
    let count = c.moved_count.ensures in
    let most = c.waiting_at-most.ensures ∙ ap (waiting_at c.args.self.now.geometry) c.share.ensures in
    over_match c.args.flushing (ram c.args.self.now) c.overdue.result c.if-flushing.false c.requires.safe.memory (omega arith) c.overdue.ensures
