use Rattle.std.proofs.Common.{◌≡◌}
use Rattle.page_layout.specs.declared.record.Key.TheVariants.{Sector}
use Rattle.collection.specs.Safe.{ram}
use Rattle.collection.proofs.Copies.{mark_within}
use Rattle.collection.proofs.engine.Engine.mark.Goals as goal

pub set_mark-requires : goal.set_mark-requires
set_mark-requires g c = mark_within (ram c.args.self.now) c.args.key c.in-Sector-true.n c.entries.result c.requires.safe.memory c.requires.key (let e : c.args.key ≡ Sector c.in-Sector-true.n = cc in e) c.entries.ensures
