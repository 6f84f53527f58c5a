use Rattle.std.proofs.Common.{rules}
use Rattle.disk_commands.specs.ShapeText.{IsShapeText}
use Rattle.disk_commands.proofs.opening.text_at.Goals as goal

pub returns-in-Ok-read_shape-clause-ok : goal.returns-in-Ok-read_shape-clause-ok
returns-in-Ok-read_shape-clause-ok g c =
    let says : IsShapeText c.in-Ok.text.items c.in-Ok-read_shape.told = search rules in
    record { text = c.in-Ok.text.items; tells = c.in-Ok.ensures.bytes; says = says }
