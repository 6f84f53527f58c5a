use Rattle.std.proofs.Common.{◌++◌, inl, refl}
use Rattle.std.proofs.lemmas.Result.{err_from_is_err_and}
use Rattle.stream_bus.proofs.StreamLemmas.{carried_then}
use Rattle.stream_bus.proofs.streams.carry.Goals as goal

pub returns-in_err-send_frame : goal.returns-in_err-send_frame
returns-in_err-send_frame g c =
    let p = err_from_is_err_and c.from_residual.result c.from_residual.ensures.1 in
    rw p.1 (inl (c.in_err-send_frame.ensures, refl))

pub returns : goal.returns
returns g c =
    carried_then
    (record { written = g.W.Write.contents; left = g.R.Read.remaining; write_fails = g.W.Outgoing.fails; read_fails = g.R.Incoming.fails; hands = g.W.Outgoing.hands })
    c.args.writer.now c.send_frame.new.writer c.args.reader.now c.read_answer.new.reader (c.args.head.now ++ c.args.bytes.now) c.read_answer.new.out c.read_answer.result
    c.in_ok-send_frame.ensures c.read_answer.ensures.read c.read_answer.ensures.cause
