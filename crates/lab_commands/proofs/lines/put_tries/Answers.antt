use Rattle.lab_commands.proofs.lines.put_tries.Goals as goal

pub returns : goal.returns
returns g c = c.put_both_between.ensures
