use Rattle.std.proofs.Common.{ap, ◌∙◌, arith}
use Rattle.page_layout.specs.Geometry.{vmax_at}
use Rattle.collection.specs.Safe.{ram}
use Rattle.collection.proofs.Rooms.{made_none_worth, none_worth_none, none_worth_large}
use Rattle.collection.proofs.engine.Engine.worth_below.Goals as goal

pub returns-in_default : goal.returns-in_default
returns-in_default g c = made_none_worth c.args.many (ram c.args.self.now) c.requires.safe.memory
    (none_worth_large (ram c.args.self.now) c.in-Some.block c.requires.safe.memory c.in-Some.ensures.best
    (let most = c.vmax_at.ensures ∙ ap (vmax_at c.args.self.now.geometry) c.share.ensures in omega (arith, c.if-live-vmax_at.false, c.live.ensures, most)))

pub returns-in_default-2 : goal.returns-in_default-2
returns-in_default-2 g c = made_none_worth c.args.many (ram c.args.self.now) c.requires.safe.memory (none_worth_none (ram c.args.self.now) c.requires.safe.memory c.in_default.ensures.best)
