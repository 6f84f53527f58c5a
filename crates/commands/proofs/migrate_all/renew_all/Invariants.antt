use Rattle.commands.proofs.MigrateLemmas.{IsGoing}
use Rattle.commands.proofs.migrate_all.renew_all.Given as goal

abbrev pub invariant-calls : goal.invariant-calls
invariant-calls g l = IsGoing g.N.PageSource.view l.geometry l.initial.device l.count l.device
