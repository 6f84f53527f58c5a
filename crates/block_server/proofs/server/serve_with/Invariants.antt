use Rattle.std.proofs.Common.{◌≡◌, length}
use Rattle.std.specs.Io.KnownBytes.{Appends}
use Rattle.block_server.proofs.Serving.{IsServing}
use Rattle.block_server.proofs.server.serve_with.Given as goal

abbrev pub invariant-loop-replies : goal.invariant-loop-replies
invariant-loop-replies g l =
    (length l.body ≡ l.initial.device.engine.geometry.data_bytes) × (length l.bytes ≡ l.initial.device.engine.geometry.data_bytes)
    × IsServing g.N.PageSource.view l.initial.device l.device (g.R.Read.remaining l.initial.reader) (g.R.Read.remaining l.reader)
    (Appends (g.W.Write.contents l.initial.writer) (g.W.Write.contents l.writer)) l.replies
    × (g.N.PageSource.view.calm l.device.engine.nand ≡ g.N.PageSource.view.calm l.initial.device.engine.nand)
