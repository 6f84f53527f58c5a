use Rattle.nbd_stream.proofs.body.take_in.Goals as goal

pub returns-then-filled-clause-fails : goal.returns-then-filled-clause-fails
returns-then-filled-clause-fails g c = (c.args.reader.now, c.receive-filled.ensures.fails c.if-filled.true)
