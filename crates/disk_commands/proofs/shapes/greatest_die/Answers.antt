use Rattle.disk_commands.proofs.shapes.greatest_die.Goals as goal

pub returns-in-Err-clause-none : goal.returns-in-Err-clause-none
returns-in-Err-clause-none c = λ none g is. c.in-Err.ensures.err g is.die
