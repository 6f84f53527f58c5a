use Rattle.lab_commands.proofs.lines.put_age_of_rows.Goals as goal

pub returns : goal.returns
returns g c = c.put_count_between.ensures
