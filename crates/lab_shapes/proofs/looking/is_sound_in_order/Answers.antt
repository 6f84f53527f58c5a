use Rattle.lab_shapes.proofs.LookLemmas.{spells_none}
use Rattle.lab_shapes.proofs.looking.is_sound_in_order.Goals as goal

pub returns-then-is_none-clause-sound : goal.returns-then-is_none-clause-sound
returns-then-is_none-clause-sound g c = λ all told size.
    spells_none c.args.geometry.now c.args.arrangement.now all c.args.row c.read_spare.new.spare c.spelled.result c.requires.row (c.in_ok-read_spare.ensures.read all told size) c.spelled.ensures c.if-is_none.ensures
