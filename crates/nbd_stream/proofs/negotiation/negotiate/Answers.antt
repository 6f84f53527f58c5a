use Rattle.std.proofs.Common.{Err, refl, sym, subst, ap, inl, inr}
use Rattle.std.proofs.lemmas.Result.{err_from_is_err_and}
use Rattle.request_stream.specs.declared.reply.ServeFault.{ServeFault}
use Rattle.request_stream.specs.Streams.{HasStreamFailed}
use Rattle.nbd_stream.proofs.HandedLemmas.{has_then, unread, unsent}
use Rattle.nbd_stream.proofs.StreamEnds.{stop_later}
use Rattle.nbd_stream.proofs.negotiation.negotiate.Goals as goal

pub returns-in_err-send_parts-clause-negotiates : goal.returns-in_err-send_parts-clause-negotiates
returns-in_err-send_parts-clause-negotiates g c =
    let p = err_from_is_err_and c.from_residual.result c.from_residual.ensures.1 in
    let stopped = c.in_err-send_parts.ensures.sends in
    rw (p.1, p.2) (inl (ap (λ (k : ServeFault). Err k) stopped.0, refl, stopped.1))

pub returns-in_err-end-clause-negotiates : goal.returns-in_err-end-clause-negotiates
returns-in_err-end-clause-negotiates g c =
    let p = err_from_is_err_and c.from_residual-in_err-end.result c.from_residual-in_err-end.ensures.1 in
    rw (p.1, p.2) (inr (g.W.Write.contents c.send_parts.new.writer, c.in_ok-send_parts.ensures.sends, inr (refl, c.in_err-end.ensures.reads)))

pub returns-in-Ended-clause-negotiates : goal.returns-in-Ended-clause-negotiates
returns-in-Ended-clause-negotiates g c =
    let none = rw c.in-Ended.is at c.in_ok-end.ensures.reads in
    inr (g.W.Write.contents c.send_parts.new.writer, c.in_ok-send_parts.ensures.sends, inr (refl, none))

pub returns-in-NoZeroes-clause-negotiates : goal.returns-in-NoZeroes-clause-negotiates
returns-in-NoZeroes-clause-negotiates g c =
    let flags = rw c.in-NoZeroes.is at c.in_ok-end.ensures.reads in
    inr (g.W.Write.contents c.send_parts.new.writer, c.in_ok-send_parts.ensures.sends, inl (c.in-NoZeroes.no_zeroes, g.R.Read.remaining c.read_flags.new.reader, flags, c.answer_options.ensures.answers))

pub returns-in_err-send_parts-clause-stops : goal.returns-in_err-send_parts-clause-stops
returns-in_err-send_parts-clause-stops g c =
    let p = err_from_is_err_and c.from_residual.result c.from_residual.ensures.1 in
    let stopped = c.in_err-send_parts.ensures.sends in
    rw (p.1, p.2) (inl (subst (λ f. HasStreamFailed g.R.Incoming.fails g.W.Outgoing.fails c.args.reader.now c.send_parts.new.writer f) (sym stopped.0) c.in_err-send_parts.ensures.fails))

pub returns-in_err-end-clause-stops : goal.returns-in_err-end-clause-stops
returns-in_err-end-clause-stops g c =
    let p = err_from_is_err_and c.from_residual-in_err-end.result c.from_residual-in_err-end.ensures.1 in
    let unread = c.in_err-end.ensures.reads in
    rw (p.1, p.2) (inl (subst (λ f. HasStreamFailed g.R.Incoming.fails g.W.Outgoing.fails c.read_flags.new.reader c.send_parts.new.writer f) (sym unread.0) c.in_err-end.ensures.fails))

pub returns-in-NoZeroes-clause-stops : goal.returns-in-NoZeroes-clause-stops
returns-in-NoZeroes-clause-stops g c =
    let flags = rw c.in-NoZeroes.is at c.in_ok-end.ensures.reads in
    stop_later g.R.Incoming.fails g.W.Outgoing.fails (g.R.Read.remaining c.args.reader.now) (g.R.Read.remaining c.read_flags.new.reader) (g.R.Read.remaining c.answer_options.new.reader) c.answer_options.new.reader c.answer_options.new.writer _ c.answer_options.result
    flags.3 c.answer_options.ensures.stops

pub returns-in_err-send_parts-clause-handed : goal.returns-in_err-send_parts-clause-handed
returns-in_err-send_parts-clause-handed g c =
    let p = err_from_is_err_and c.from_residual.result c.from_residual.ensures.1 in
    let stopped = c.in_err-send_parts.ensures.sends in
    rw (p.1, p.2) (unsent _ c.in_err-send_parts.field-0.0 stopped.0)

pub returns-in_err-end-clause-handed : goal.returns-in_err-end-clause-handed
returns-in_err-end-clause-handed g c =
    let p = err_from_is_err_and c.from_residual-in_err-end.result c.from_residual-in_err-end.ensures.1 in
    let none = c.in_err-end.ensures.reads in
    rw (p.1, p.2) (unread _ c.in_err-end.field-0.0 none.0 c.in_ok-send_parts.ensures.hands)

pub returns-in-Ended-clause-handed : goal.returns-in-Ended-clause-handed
returns-in-Ended-clause-handed g c = c.in_ok-send_parts.ensures.hands

pub returns-in-NoZeroes-clause-handed : goal.returns-in-NoZeroes-clause-handed
returns-in-NoZeroes-clause-handed g c =
    has_then g.W.Outgoing.hands c.send_parts.new.writer c.answer_options.new.writer c.answer_options.result c.in_ok-send_parts.ensures.hands c.answer_options.ensures.handed
