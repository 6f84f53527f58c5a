use Rattle.std.proofs.Common.{inl, refl, subst, sym}
use Rattle.std.proofs.lemmas.Result.{err_from_is_err_and}
use Rattle.request_stream.specs.Streams.{HasStreamFailed}
use Rattle.nbd_stream.proofs.ThroughLemmas.{joined, no_change, none}
use Rattle.nbd_stream.proofs.HandedLemmas.{unread, unsent}
use Rattle.nbd_stream.proofs.Serving.{next_served, next_unsent}
use Rattle.nbd_stream.proofs.transmission.serve_next.Goals as goal

pub returns-in_ok-answer-in-Whole-clause-serves : goal.returns-in_ok-answer-in-Whole-clause-serves
returns-in_ok-answer-in-Whole-clause-serves g c =
    let whole = rw c.in-Whole.is at c.in_ok-end.ensures.reads in
    let rest = rw c.admit-asked.ensures at c.rest_after.ensures.rests in
    next_served g.D.Disk.contents g.D.Disk.honest g.D.Disk.calm g.D.Disk.does g.D.Disk.rests c.args.export.now c.args.disk.now c.rest_after.new.disk _ _ _ _ c.in-Whole.header whole.0 whole.1 whole.2
    c.answer.new.disk c.in_ok-answer-in-Whole.field-0 (c.in_ok-answer-in-Whole.ensures.replies whole.0 whole.1 whole.3) rest

pub returns-in_err-answer-in-Whole-clause-serves : goal.returns-in_err-answer-in-Whole-clause-serves
returns-in_err-answer-in-Whole-clause-serves g c =
    let whole = rw c.in-Whole.is at c.in_ok-end.ensures.reads in
    let p = err_from_is_err_and c.from_residual-in_err-answer-in-Whole.result c.from_residual-in_err-answer-in-Whole.ensures.1 in
    rw (p.1, p.2) (next_unsent g.D.Disk.contents g.D.Disk.honest g.D.Disk.calm g.D.Disk.does g.D.Disk.rests c.args.export.now c.args.disk.now c.answer.new.disk _ _ _ _ c.in-Whole.header whole.0 whole.1 whole.2
    c.in_err-answer-in-Whole.field-0.0 (c.in_err-answer-in-Whole.ensures.replies whole.0 whole.1 whole.3))

pub returns-in_ok-answer-in-Whole-clause-leaves : goal.returns-in_ok-answer-in-Whole-clause-leaves
returns-in_ok-answer-in-Whole-clause-leaves g c = λ reads.
    (let not = no_change c.args.export.now c.in-Whole.header c.admit-asked.result c.admit-asked.ensures reads in
    joined g.D.Disk.leaves c.args.disk.now c.answer.new.disk c.rest_after.new.disk (c.in_ok-answer-in-Whole.ensures.leaves not)
    (none g.D.Disk.leaves c.answer.new.disk c.rest_after.new.disk (c.rest_after.ensures.none not)))

pub returns-in_err-answer-in-Whole-clause-leaves : goal.returns-in_err-answer-in-Whole-clause-leaves
returns-in_err-answer-in-Whole-clause-leaves g c = λ reads.
    c.in_err-answer-in-Whole.ensures.leaves (no_change c.args.export.now c.in-Whole.header c.admit-asked.result c.admit-asked.ensures reads)

pub returns-in_err-end-clause-leaves : goal.returns-in_err-end-clause-leaves
returns-in_err-end-clause-leaves g c = λ reads. none g.D.Disk.leaves c.args.disk.now c.args.disk.now refl

pub returns-in-Ended-clause-leaves : goal.returns-in-Ended-clause-leaves
returns-in-Ended-clause-leaves g c = λ reads. none g.D.Disk.leaves c.args.disk.now c.args.disk.now refl

pub returns-in_err-end-clause-fails : goal.returns-in_err-end-clause-fails
returns-in_err-end-clause-fails g c =
    let p = err_from_is_err_and c.from_residual.result c.from_residual.ensures.1 in
    let unread = c.in_err-end.ensures.reads in
    rw (p.1, p.2) (subst (λ f. HasStreamFailed g.R.Incoming.fails g.W.Outgoing.fails c.read_request.new.reader c.args.writer.now f) (sym unread.0) c.in_err-end.ensures.fails)

pub returns-in_err-answer-in-Whole-clause-fails : goal.returns-in_err-answer-in-Whole-clause-fails
returns-in_err-answer-in-Whole-clause-fails g c =
    let whole = rw c.in-Whole.is at c.in_ok-end.ensures.reads in
    let p = err_from_is_err_and c.from_residual-in_err-answer-in-Whole.result c.from_residual-in_err-answer-in-Whole.ensures.1 in
    let unsent = c.in_err-answer-in-Whole.ensures.replies whole.0 whole.1 whole.3 in
    let is = unsent.sends in
    rw (p.1, p.2) (subst (λ f. HasStreamFailed g.R.Incoming.fails g.W.Outgoing.fails c.read_request.new.reader c.answer.new.writer f) (sym is.0) c.in_err-answer-in-Whole.ensures.fails)

pub returns-in_err-end-clause-handed : goal.returns-in_err-end-clause-handed
returns-in_err-end-clause-handed g c =
    let p = err_from_is_err_and c.from_residual.result c.from_residual.ensures.1 in
    let none = c.in_err-end.ensures.reads in
    rw (p.1, p.2) (unread _ c.in_err-end.field-0.0 none.0 (inl refl))

pub returns-in_err-answer-in-Whole-clause-handed : goal.returns-in_err-answer-in-Whole-clause-handed
returns-in_err-answer-in-Whole-clause-handed g c =
    let whole = rw c.in-Whole.is at c.in_ok-end.ensures.reads in
    let p = err_from_is_err_and c.from_residual-in_err-answer-in-Whole.result c.from_residual-in_err-answer-in-Whole.ensures.1 in
    let sent = c.in_err-answer-in-Whole.ensures.replies whole.0 whole.1 whole.3 in
    let is = sent.sends in
    rw (p.1, p.2) (unsent _ c.in_err-answer-in-Whole.field-0.0 is.0)
