use Rattle.disk_commands.proofs.AskedLemmas.{no_shape}
use Rattle.disk_commands.proofs.asked.shape_of.Goals as goal

pub returns-clause-fault : goal.returns-clause-fault
returns-clause-fault c = no_shape c.args.words c.in_ok-share.share c.shape_at.result c.in_ok-share.ensures.ok c.shape_at.ensures.fault
