use Rattle.std.proofs.Common.{◌≡◌, ◌++◌, ◌∙◌, [], append-nil}
use Rattle.std.proofs.KnownBytes.{Appends-trans}
use Rattle.std.proofs.lemmas.Result.{err_from_is_err_and}
use Rattle.request_stream.specs.Frames.{answer_bytes}
use Rattle.request_stream.proofs.Writing.{front_more, front_stop, part_front, sends_then, head_then}
use Rattle.request_stream.proofs.reply.send_frame.Goals as goal

pub returns-in_err-put-clause-sends : goal.returns-in_err-put-clause-sends
returns-in_err-put-clause-sends g c =
    let p = err_from_is_err_and c.from_residual.result c.from_residual.ensures.1 in
    let stopped = c.in_err-put.ensures.sends in
    let head : c.reply_header.result ≡ answer_bytes c.args.code c.args.status c.args.tag [] = c.reply_header.ensures in
    let whole : c.reply_header.result ++ c.args.sector.now ≡ answer_bytes c.args.code c.args.status c.args.tag c.args.sector.now = head_then c.args.code c.args.status c.args.tag c.args.sector.now c.reply_header.result head in
    rw (p.1, p.2) (stopped.0, front_stop _ _ c.reply_header.result c.args.sector.now _ whole (part_front _ _ _ stopped.1))

pub returns-in_err-put-2-clause-sends : goal.returns-in_err-put-2-clause-sends
returns-in_err-put-2-clause-sends g c =
    let p = err_from_is_err_and c.from_residual-in_err-put-2.result c.from_residual-in_err-put-2.ensures.1 in
    let stopped = c.in_err-put-2.ensures.sends in
    let whole = head_then c.args.code c.args.status c.args.tag c.args.sector.now c.reply_header.result c.reply_header.ensures in
    rw (p.1, p.2) (stopped.0, front_more _ _ _ c.reply_header.result c.args.sector.now _ whole c.in_ok-put.ensures.sends (part_front _ _ _ stopped.1))

pub returns-clause-sends : goal.returns-clause-sends
returns-clause-sends g c =
    let whole = head_then c.args.code c.args.status c.args.tag c.args.sector.now c.reply_header.result c.reply_header.ensures in
    sends_then _ _ _ (c.reply_header.result ++ c.args.sector.now) [] _ c.hand_on.result (append-nil (c.reply_header.result ++ c.args.sector.now) ∙ whole)
    (Appends-trans _ _ _ c.reply_header.result c.args.sector.now c.in_ok-put.ensures.sends c.in_ok-put-2.ensures.sends) c.hand_on.ensures.sends
