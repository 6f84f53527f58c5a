use Rattle.lab_commands.proofs.lines.put_damaged.Goals as goal

pub returns : goal.returns
returns g c = c.put_between.ensures
