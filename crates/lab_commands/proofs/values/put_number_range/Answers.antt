use Rattle.json.specs.Print.{escape_byte}
use Rattle.lab_commands.proofs.values.put_number_range.Goals as goal

pub returns : goal.returns
unfolding escape_byte
returns g c = c.put_count_between.ensures
