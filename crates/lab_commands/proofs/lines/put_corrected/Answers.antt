use Rattle.lab_commands.proofs.lines.put_corrected.Goals as goal

pub returns : goal.returns
returns g c = c.put_pieces.ensures
