use Rattle.std.proofs.Common.{◌≡◌, length}
use Rattle.nbd_stream.proofs.Negotiating.{IsNegotiating}
use Rattle.nbd_stream.proofs.StreamEnds.{HaveRead}
use Rattle.nbd_stream.specs.Handed.{IsHandedOn}
use Rattle.nbd_stream.proofs.negotiation.answer_options.Given as goal

abbrev pub invariant-loop : goal.invariant-loop
invariant-loop g l = (length l.body ≡ length l.fn.body)
    × IsNegotiating l.fn.export l.fn.no_zeroes (length l.fn.body) (g.R.Read.remaining l.fn.reader) (g.R.Read.remaining l.reader) (g.W.Write.contents l.fn.writer) (g.W.Write.contents l.writer)
    × HaveRead l.counter (g.R.Read.remaining l.fn.reader) (g.R.Read.remaining l.reader)
    × IsHandedOn g.W.Outgoing.hands l.fn.writer l.writer
