use Rattle.disk_commands.proofs.ShapeTextLemmas.{shape_told}
use Rattle.disk_commands.proofs.shape_text.shape_laws.Goals as goal

pub returns : goal.returns
returns c = shape_told
