use Rattle.json.specs.Print.{escape_byte}
use Rattle.lab_commands.proofs.turn_lines.put_tried_data.Goals as goal

pub returns : goal.returns
unfolding escape_byte
returns g c = c.put_count_between.ensures
