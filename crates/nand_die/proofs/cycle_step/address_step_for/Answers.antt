use Rattle.nand_die.proofs.cycle_step.address_step_for.Goals as goal

pub returns-in-Identity-clause-within : goal.returns-in-Identity-clause-within
returns-in-Identity-clause-within c = c.identity_address.ensures.within c.args.geometry.now
