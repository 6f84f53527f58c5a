use Rattle.lab_commands.proofs.lines.put_one.Goals as goal

pub returns : goal.returns
returns g c = c.put_pieces.ensures
