use Rattle.std.proofs.Common.{◌≡◌, ◌≤◌, ◌∙◌, inl, inr, length, refl, rules, arith}
use Rattle.std.proofs.lemmas.Result.{err_from_is_err_and}
use Rattle.nbd_stream.proofs.ThroughLemmas.{joined, none}
use Rattle.nbd_stream.proofs.HandedLemmas.{handed_then, leaves_fault}
use Rattle.nbd_stream.proofs.Serving.{counted_out, finished, serving_none, serving_on, stopped}
use Rattle.nbd_stream.specs.Frames.{nbd_request_bytes}
use Rattle.nbd_stream.proofs.StreamEnds.{long_request, more_read, none_read}
use Rattle.nbd_stream.proofs.transmission.transmit.Goals as goal

pub loop-init : goal.loop-init
loop-init g c = (refl, serving_none g.D.Disk.contents g.D.Disk.honest g.D.Disk.calm g.D.Disk.does g.D.Disk.rests c.args.export.now c.args.disk.now _ _, λ reads. none g.D.Disk.leaves c.args.disk.now c.args.disk.now refl, none_read _, inl refl)

pub loop-preserved : goal.loop-preserved
loop-preserved g c =
    let long : length c.serve_next.new.buffer ≡ length c.args.buffer.now = search rules in
    let one = rw c.in-None.is at c.in_ok-serve_next.ensures.serves in (
      long,
      serving_on g.D.Disk.contents g.D.Disk.honest g.D.Disk.calm g.D.Disk.does g.D.Disk.rests c.args.export.now c.args.disk.now c.loop.disk _ _ _ _ c.loop.invariant.1 c.serve_next.new.disk _ _ one,
      λ reads. joined g.D.Disk.leaves c.args.disk.now c.loop.disk c.serve_next.new.disk (c.loop.invariant.2 reads) (c.in_ok-serve_next.ensures.leaves reads),
      more_read c.loop.counter _ _ _ (nbd_request_bytes one.round.exchange.request) c.loop.invariant.3 (long_request one.round.exchange.request) one.read,
      handed_then g.W.Outgoing.hands c.args.writer.now c.loop.writer c.serve_next.new.writer c.loop.invariant.4 c.in_ok-serve_next.ensures.handed,
    )

pub serve_next-requires-clause-size : goal.serve_next-requires-clause-size
serve_next-requires-clause-size g c = let so_far = c.loop.invariant.1 in so_far.sized ∙ c.requires.size

pub returns-in-Some-clause-transmits : goal.returns-in-Some-clause-transmits
returns-in-Some-clause-transmits g c =
    let last = rw c.in-Some.is at c.in_ok-serve_next.ensures.serves in
    finished g.D.Disk.contents g.D.Disk.honest g.D.Disk.calm g.D.Disk.does g.D.Disk.rests c.args.export.now c.args.disk.now c.loop.disk _ _ _ _ c.loop.invariant.1 c.serve_next.new.disk _ _ c.in-Some.end last

pub returns-in_err-serve_next-clause-transmits : goal.returns-in_err-serve_next-clause-transmits
returns-in_err-serve_next-clause-transmits g c =
    let p = err_from_is_err_and c.from_residual.result c.from_residual.ensures.1 in
    rw (p.1, p.2) (stopped g.D.Disk.contents g.D.Disk.honest g.D.Disk.calm g.D.Disk.does g.D.Disk.rests c.args.export.now c.args.disk.now c.loop.disk _ _ _ _ c.loop.invariant.1 c.serve_next.new.disk _ _ c.in_err-serve_next.field-0.0 c.in_err-serve_next.ensures.serves)

pub returns-clause-transmits : goal.returns-clause-transmits
returns-clause-transmits g c = counted_out g.D.Disk.contents g.D.Disk.honest g.D.Disk.calm g.D.Disk.does g.D.Disk.rests c.args.export.now c.args.disk.now c.loop.disk _ _ _ _ c.loop.invariant.1

pub returns-in-Some-clause-leaves : goal.returns-in-Some-clause-leaves
returns-in-Some-clause-leaves g c = λ reads. joined g.D.Disk.leaves c.args.disk.now c.loop.disk c.serve_next.new.disk (c.loop.invariant.2 reads) (c.in_ok-serve_next.ensures.leaves reads)

pub returns-in_err-serve_next-clause-leaves : goal.returns-in_err-serve_next-clause-leaves
returns-in_err-serve_next-clause-leaves g c = λ reads. joined g.D.Disk.leaves c.args.disk.now c.loop.disk c.serve_next.new.disk (c.loop.invariant.2 reads) (c.in_err-serve_next.ensures.leaves reads)

pub returns-clause-leaves : goal.returns-clause-leaves
returns-clause-leaves g c = c.loop.invariant.2

pub returns-in_err-serve_next-clause-stops : goal.returns-in_err-serve_next-clause-stops
returns-in_err-serve_next-clause-stops g c =
    let p = err_from_is_err_and c.from_residual.result c.from_residual.ensures.1 in
    rw (p.1, p.2) (inl c.in_err-serve_next.ensures.fails)

pub returns-clause-stops : goal.returns-clause-stops
returns-clause-stops g c =
    let read = c.loop.invariant.3 in
    let counted : 18446744073709551615 ≤ c.loop.counter = omega arith in
    inr (refl, (read.0, omega (arith, read.1, counted), read.2))

pub returns-in-Some-clause-handed : goal.returns-in-Some-clause-handed
returns-in-Some-clause-handed g c = handed_then g.W.Outgoing.hands c.args.writer.now c.loop.writer c.serve_next.new.writer c.loop.invariant.4 c.in_ok-serve_next.ensures.handed

pub returns-in_err-serve_next-clause-handed : goal.returns-in_err-serve_next-clause-handed
returns-in_err-serve_next-clause-handed g c =
    let p = err_from_is_err_and c.from_residual.result c.from_residual.ensures.1 in
    rw (p.1, p.2) (leaves_fault g.W.Outgoing.hands c.args.writer.now c.loop.writer c.serve_next.new.writer c.in_err-serve_next.field-0.0 c.loop.invariant.4 c.in_err-serve_next.ensures.handed)

pub returns-clause-handed : goal.returns-clause-handed
returns-clause-handed g c = c.loop.invariant.4
