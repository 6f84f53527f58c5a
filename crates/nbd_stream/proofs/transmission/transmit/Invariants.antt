use Rattle.std.proofs.Common.{◌≡◌, length, true}
use Rattle.std.specs.Io.KnownBytes.{Appends}
use Rattle.nbd_stream.specs.Through.{Through}
use Rattle.nbd_stream.specs.Handed.{IsHandedOn}
use Rattle.nbd_stream.specs.Exchanges.{AreRested}
use Rattle.nbd_stream.proofs.Serving.{IsServing}
use Rattle.nbd_stream.proofs.StreamEnds.{HaveRead}
use Rattle.nbd_stream.proofs.transmission.transmit.Given as goal

abbrev pub invariant-loop : goal.invariant-loop
invariant-loop g l = (length l.buffer ≡ length l.fn.buffer)
    × IsServing g.D.Disk.contents g.D.Disk.honest g.D.Disk.calm g.D.Disk.does g.D.Disk.rests l.fn.export l.fn.disk l.disk (g.R.Read.remaining l.fn.reader) (g.R.Read.remaining l.reader)
    (Appends (g.W.Write.contents l.fn.writer) (g.W.Write.contents l.writer)) (AreRested l.fn.export)
    × (l.fn.export.read_only ≡ true → Through g.D.Disk.leaves l.fn.disk l.disk)
    × HaveRead l.counter (g.R.Read.remaining l.fn.reader) (g.R.Read.remaining l.reader)
    × IsHandedOn g.W.Outgoing.hands l.fn.writer l.writer
