use Rattle.disk_tests.proofs.LifeLemmas.{agrees_again}
use Rattle.disk_tests.proofs.tests.die.lives.mounted.Goals as goal

pub returns : goal.returns
returns g c = agrees_again g.S.Store.held g.S.Store.honest c.args.store c.in-Ok.made.0 c.in-Ok.made.1 c.in-Ok.ensures.back c.in-Ok.ensures.mounted
