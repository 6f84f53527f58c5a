use Rattle.page_layout.proofs.RecordLemmas.{sound_written, version_written}
use Rattle.page_layout.proofs.record.write_version.Goals as goal

pub returns-clause-is : goal.returns-clause-is
returns-clause-is c =
    sound_written c.args.version c.args.written.now c.args.body.now _ _ _ _ _ c.head_of-head.ensures.fits c.head_of-head.ensures.is
    c.hash-hash.ensures.is c.hash-hash.ensures.len c.seal_size.ensures c.join_spare.ensures c.requires

pub returns-clause-of_version : goal.returns-clause-of_version
returns-clause-of_version c =
    version_written c.args.version c.args.written.now c.args.body.now _ _ _ c.head_of-head.ensures.is c.join_spare.ensures (returns-clause-is c)
