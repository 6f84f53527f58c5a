use Rattle.lab_commands.proofs.origin_lines.put_origin.Goals as goal

pub returns : goal.returns
returns g c = c.put_between.ensures
