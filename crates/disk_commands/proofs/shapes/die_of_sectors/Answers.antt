use Rattle.disk_commands.proofs.ShapeLemmas.{greatest_if}
use Rattle.disk_commands.proofs.shapes.die_of_sectors.Goals as goal

pub returns-in-None-clause-some : goal.returns-in-None-clause-some
returns-in-None-clause-some c = greatest_if c.args.share c.args.sectors c.greatest_die.result (c.spared_die.ensures.none c.in-None.is) c.greatest_die.ensures.some

pub returns-in-None-clause-none : goal.returns-in-None-clause-none
returns-in-None-clause-none c = λ none. (c.spared_die.ensures.none c.in-None.is, c.greatest_die.ensures.none none)
