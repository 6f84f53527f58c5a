use Rattle.nand_die.proofs.cycle_step.command_step.Goals as goal

pub returns-in-Ready-clause-within : goal.returns-in-Ready-clause-within
returns-in-Ready-clause-within c = rw c.in-Ready.is (c.command_at_ready.ensures.within c.args.geometry.now (rw c.in-Ready.is at c.requires.within))
