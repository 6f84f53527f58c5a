use Rattle.std.proofs.Common.{◌++◌, refl}
use Rattle.std.proofs.KnownBytes.{Appends-trans}
use Rattle.std.proofs.lemmas.Result.{err_from_is_err_and}
use Rattle.request_stream.proofs.Writing.{front_more, front_stop, part_front}
use Rattle.stream_bus.proofs.StreamLemmas.{handed_then}
use Rattle.stream_bus.proofs.streams.send_frame.Goals as goal

pub returns-in_err-put : goal.returns-in_err-put
returns-in_err-put g c =
    let p = err_from_is_err_and c.from_residual.result c.from_residual.ensures.1 in
    rw p.1 (record {
      front = front_stop _ _ c.args.head.now c.args.bytes.now _ refl (part_front _ _ _ c.in_err-put.ensures.sends.1);
      cause = (c.args.writer.now, c.in_err-put.ensures.fails);
    })

pub returns-in_err-put-2 : goal.returns-in_err-put-2
returns-in_err-put-2 g c =
    let p = err_from_is_err_and c.from_residual-in_err-put-2.result c.from_residual-in_err-put-2.ensures.1 in
    rw p.1 (record {
      front = front_more _ _ _ c.args.head.now c.args.bytes.now _ refl c.in_ok-put.ensures.sends (part_front _ _ _ c.in_err-put-2.ensures.sends.1);
      cause = (c.put.new.self, c.in_err-put-2.ensures.fails);
    })

pub returns : goal.returns
returns g c =
    handed_then g.W.Write.contents g.W.Outgoing.hands g.W.Outgoing.fails c.args.writer.now c.put-2.new.self c.hand_on.new.self (c.args.head.now ++ c.args.bytes.now) c.hand_on.result
    (Appends-trans _ _ _ c.args.head.now c.args.bytes.now c.in_ok-put.ensures.sends c.in_ok-put-2.ensures.sends) c.hand_on.ensures.sends c.hand_on.ensures.fails c.hand_on.ensures.hands
