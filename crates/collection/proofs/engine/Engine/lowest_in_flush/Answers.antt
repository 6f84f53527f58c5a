use Rattle.std.proofs.Common.{arith}
use Rattle.collection.specs.Safe.{ram}
use Rattle.collection.proofs.Overs.{none_due}
use Rattle.collection.proofs.engine.Engine.lowest_in_flush.Goals as goal

pub returns : goal.returns
returns g c = none_due (ram c.args.self.now) c.requires.safe.memory (λ t lt. c.pages.invariant t (let end = c.pages-test.false in let all = c.translation_pages-t-end.ensures in omega arith))
