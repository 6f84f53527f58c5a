use Rattle.disk_commands.proofs.shape_text.share_told.Goals as goal

pub returns-in-None-clause-fault : goal.returns-in-None-clause-fault
returns-in-None-clause-fault c = (c.in_ok-told.ensures.ok, (c.args.geometry.now, c.args.cache, c.requires, c.share_from.ensures.none c.in-None.is))
