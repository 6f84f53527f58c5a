use Rattle.std.proofs.Common.{◌∙◌}
use Rattle.lab_correct.proofs.MapLemmas.{row_is}
use Rattle.lab_correct.proofs.map.row_at.Goals as goal

pub returns-clause-is : goal.returns-clause-is
returns-clause-is c = c.from.ensures ∙ row_is c.args.losses.now c.args.number _ c.requires
