use Rattle.std.proofs.Common.{take, drop, refl, take-append-drop}
use Rattle.request_stream.proofs.Writing.{rest_missing}
use Rattle.request_stream.proofs.transfer.send.Goals as goal

pub returns-then-sent : goal.returns-then-sent
returns-then-sent g c =
    let n = c.send_until-sent.result.count in
    let all = c.args.bytes.now in
    let short = c.send_until-sent.ensures.short c.if-sent.true in
    (refl, (take n all, drop n all, rest_missing n all short, take-append-drop n all, c.send_until-sent.ensures.written))
