use Rattle.json.specs.Print.{escape_byte}
use Rattle.lab_commands.proofs.origin_lines.put_origin_data.Goals as goal

pub returns : goal.returns
unfolding escape_byte
returns g c = c.put_between.ensures
