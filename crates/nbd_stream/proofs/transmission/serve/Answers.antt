use Rattle.std.proofs.Common.{◌≡◌, ℕ, length, refl, sym, subst, rules, inl, inr, Ok}
use Rattle.std.proofs.lemmas.Result.{err_from_is_err_and}
use Rattle.nbd_stream.specs.declared.negotiation.Negotiated.TheVariants.{Transmission}
use Rattle.nbd_stream.specs.Negotiation.{Negotiates}
use Rattle.nbd_stream.proofs.StreamEnds.{negotiated_after, stop_later}
use Rattle.nbd_stream.proofs.HandedLemmas.{has_then}
use Rattle.nbd_stream.proofs.ThroughLemmas.{none}
use Rattle.nbd_stream.proofs.transmission.serve.Goals as goal

pub returns-in_err-end-clause-serves : goal.returns-in_err-end-clause-serves
returns-in_err-end-clause-serves g c =
    let p = err_from_is_err_and c.from_residual.result c.from_residual.ensures.1 in
    rw (p.1, p.2) (inl (refl, c.in_err-end.ensures.negotiates))

pub returns-in-Ended-clause-serves : goal.returns-in-Ended-clause-serves
returns-in-Ended-clause-serves g c =
    let ended = rw c.in-Ended.is at c.in_ok-end.ensures.negotiates in
    inl (refl, ended)

pub returns-in-Transmission-clause-serves : goal.returns-in-Transmission-clause-serves
returns-in-Transmission-clause-serves g c =
    let begun = rw c.in-Transmission.is at c.in_ok-end.ensures.negotiates in
    let long : length c.transmit.new.buffer ≡ length c.negotiate.new.body = search rules in
    inr (record {
      unread' = g.R.Read.remaining c.negotiate.new.reader;
      before' = g.W.Write.contents c.negotiate.new.writer;
      negotiated =
          subst (λ (k : ℕ). Negotiates c.args.export.now k (g.R.Read.remaining c.args.reader.now) (g.R.Read.remaining c.negotiate.new.reader) (g.W.Write.contents c.args.writer.now) (g.W.Write.contents c.negotiate.new.writer) (Ok Transmission)) (sym long) begun;
      transmits = c.transmit.ensures.transmits;
    })

pub returns-in_err-end-clause-leaves : goal.returns-in_err-end-clause-leaves
returns-in_err-end-clause-leaves g c = λ reads. none g.D.Disk.leaves c.args.disk.now c.args.disk.now refl

pub returns-in-Ended-clause-leaves : goal.returns-in-Ended-clause-leaves
returns-in-Ended-clause-leaves g c = λ reads. none g.D.Disk.leaves c.args.disk.now c.args.disk.now refl

pub returns-in_err-end-clause-stops : goal.returns-in_err-end-clause-stops
returns-in_err-end-clause-stops g c =
    let p = err_from_is_err_and c.from_residual.result c.from_residual.ensures.1 in
    rw (p.1, p.2) c.in_err-end.ensures.stops

pub returns-in-Transmission-clause-stops : goal.returns-in-Transmission-clause-stops
returns-in-Transmission-clause-stops g c =
    let begun = rw c.in-Transmission.is at c.in_ok-end.ensures.negotiates in
    let read = negotiated_after _ _ _ _ _ _ begun in
    stop_later g.R.Incoming.fails g.W.Outgoing.fails (g.R.Read.remaining c.args.reader.now) (g.R.Read.remaining c.negotiate.new.reader) (g.R.Read.remaining c.transmit.new.reader) c.transmit.new.reader c.transmit.new.writer read.0 c.transmit.result
    read.1 c.transmit.ensures.stops

pub returns-in_err-end-clause-handed : goal.returns-in_err-end-clause-handed
returns-in_err-end-clause-handed g c =
    let p = err_from_is_err_and c.from_residual.result c.from_residual.ensures.1 in
    rw (p.1, p.2) c.in_err-end.ensures.handed

pub returns-in-Ended-clause-handed : goal.returns-in-Ended-clause-handed
returns-in-Ended-clause-handed g c = c.in_ok-end.ensures.handed

pub returns-in-Transmission-clause-handed : goal.returns-in-Transmission-clause-handed
returns-in-Transmission-clause-handed g c =
    has_then g.W.Outgoing.hands c.negotiate.new.writer c.transmit.new.writer c.transmit.result c.in_ok-end.ensures.handed c.transmit.ensures.handed
