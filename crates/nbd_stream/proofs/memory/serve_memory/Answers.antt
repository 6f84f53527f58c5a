use Rattle.std.proofs.Common.{length, refl}
use Rattle.nbd_stream.proofs.Calm.{of_calm}
use Rattle.nbd_stream.proofs.memory.serve_memory.Goals as goal

pub returns-clause-serves : goal.returns-clause-serves
returns-clause-serves g c =
    of_calm _ _ _ _ _ c.args.export.now (length c.serve.new.buffer) c.args.disk.now c.serve.new.disk (g.R.Read.remaining c.args.reader.now)
    (g.R.Read.remaining c.serve.new.reader) (g.W.Write.contents c.args.writer.now) (g.W.Write.contents c.serve.new.writer) c.serve.result
    c.serve.ensures.serves refl refl
