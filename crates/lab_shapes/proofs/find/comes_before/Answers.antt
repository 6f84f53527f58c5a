use Rattle.std.proofs.Common.{◌∙◌, ap}
use Rattle.std.specs.Ordering.{is_lt}
use Rattle.lab_shapes.proofs.RankLemmas.{same_arranged_rank}
use Rattle.lab_shapes.proofs.find.comes_before.Goals as goal

pub returns : goal.returns
returns c = c.is_lt.ensures ∙ ap is_lt (c.cmp.ensures ∙ same_arranged_rank c.args.one.now c.args.other.now)
