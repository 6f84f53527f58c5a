use Rattle.std.proofs.Common.{◌≡◌, ◌≤◌, inl, inr, arith, length, refl, sym, subst, rules, Some, None, Ok, Err}
use Rattle.std.proofs.lemmas.Result.{err_from_is_err_and}
use Rattle.request_stream.specs.declared.reply.ServeFault.TheVariants as fault
use Rattle.nbd_stream.specs.Negotiation.{AnswersNext, AnswersOptions}
use Rattle.nbd_stream.proofs.Negotiating.{negotiating_none, negotiating_more, negotiating_done, negotiating_stopped, negotiating_full}
use Rattle.nbd_stream.specs.Options.{option_bytes}
use Rattle.nbd_stream.proofs.HandedLemmas.{handed_then, leaves_fault}
use Rattle.nbd_stream.proofs.StreamEnds.{long_option, more_read, none_read}
use Rattle.nbd_stream.proofs.negotiation.answer_options.Goals as goal

pub loop-init : goal.loop-init
loop-init g c = (refl, negotiating_none c.args.export.now c.args.no_zeroes (length c.args.body.now) (g.R.Read.remaining c.args.reader.now) (g.W.Write.contents c.args.writer.now), none_read _, inl refl)

pub loop-preserved : goal.loop-preserved
loop-preserved g c =
    let long : length c.answer_next.new.body ≡ length c.args.body.now = search rules in
    let one = rw c.in-None.is at c.in_ok-answer_next.ensures.answers in (
      long,
      negotiating_more c.args.export.now c.args.no_zeroes (length c.args.body.now) (g.R.Read.remaining c.args.reader.now) (g.W.Write.contents c.args.writer.now)
          (g.R.Read.remaining c.loop.reader) (g.W.Write.contents c.loop.writer) (g.R.Read.remaining c.answer_next.new.reader) (g.W.Write.contents c.answer_next.new.writer) c.loop.invariant.1
          (subst (λ k. AnswersNext c.args.export.now c.args.no_zeroes k (g.R.Read.remaining c.loop.reader) (g.R.Read.remaining c.answer_next.new.reader) (g.W.Write.contents c.loop.writer) (g.W.Write.contents c.answer_next.new.writer) (Ok None)) long one),
      more_read c.loop.counter _ _ _ (option_bytes one.option) c.loop.invariant.2 (long_option one.option) one.read,
      handed_then g.W.Outgoing.hands c.args.writer.now c.loop.writer c.answer_next.new.writer c.loop.invariant.3 c.in_ok-answer_next.ensures.handed,
    )

pub returns-in-Some-clause-answers : goal.returns-in-Some-clause-answers
returns-in-Some-clause-answers g c =
    let long : length c.answer_next.new.body ≡ length c.args.body.now = search rules in
    let last = rw c.in-Some.is at c.in_ok-answer_next.ensures.answers in
    subst (λ k. AnswersOptions c.args.export.now c.args.no_zeroes k (g.R.Read.remaining c.args.reader.now) (g.R.Read.remaining c.answer_next.new.reader) (g.W.Write.contents c.args.writer.now) (g.W.Write.contents c.answer_next.new.writer) (Ok c.in-Some.negotiated)) (sym long)
    (negotiating_done c.args.export.now c.args.no_zeroes (length c.args.body.now) (g.R.Read.remaining c.args.reader.now) (g.W.Write.contents c.args.writer.now)
    (g.R.Read.remaining c.loop.reader) (g.W.Write.contents c.loop.writer) (g.R.Read.remaining c.answer_next.new.reader) (g.W.Write.contents c.answer_next.new.writer) c.loop.invariant.1 c.in-Some.negotiated
    (subst (λ k. AnswersNext c.args.export.now c.args.no_zeroes k (g.R.Read.remaining c.loop.reader) (g.R.Read.remaining c.answer_next.new.reader) (g.W.Write.contents c.loop.writer) (g.W.Write.contents c.answer_next.new.writer) (Ok (Some c.in-Some.negotiated))) long last))

pub returns-in_err-answer_next-clause-answers : goal.returns-in_err-answer_next-clause-answers
returns-in_err-answer_next-clause-answers g c =
    let p = err_from_is_err_and c.from_residual.result c.from_residual.ensures.1 in
    let long : length c.answer_next.new.body ≡ length c.args.body.now = search rules in
    let stop = c.in_err-answer_next.field-0.0 in
    rw (p.1, p.2) (subst (λ k. AnswersOptions c.args.export.now c.args.no_zeroes k (g.R.Read.remaining c.args.reader.now) (g.R.Read.remaining c.answer_next.new.reader) (g.W.Write.contents c.args.writer.now) (g.W.Write.contents c.answer_next.new.writer) (Err stop)) (sym long)
    (negotiating_stopped c.args.export.now c.args.no_zeroes (length c.args.body.now) (g.R.Read.remaining c.args.reader.now) (g.W.Write.contents c.args.writer.now)
    (g.R.Read.remaining c.loop.reader) (g.W.Write.contents c.loop.writer) (g.R.Read.remaining c.answer_next.new.reader) (g.W.Write.contents c.answer_next.new.writer) c.loop.invariant.1 stop
    (subst
    (λ k. AnswersNext c.args.export.now c.args.no_zeroes k (g.R.Read.remaining c.loop.reader) (g.R.Read.remaining c.answer_next.new.reader)
    (g.W.Write.contents c.loop.writer) (g.W.Write.contents c.answer_next.new.writer) (Err stop)) long c.in_err-answer_next.ensures.answers)))

pub returns-clause-answers : goal.returns-clause-answers
returns-clause-answers g c =
    subst (λ k. AnswersOptions c.args.export.now c.args.no_zeroes k (g.R.Read.remaining c.args.reader.now) (g.R.Read.remaining c.loop.reader) (g.W.Write.contents c.args.writer.now) (g.W.Write.contents c.loop.writer) (Err fault.Read)) (sym c.loop.invariant.0)
    (negotiating_full c.args.export.now c.args.no_zeroes (length c.args.body.now) (g.R.Read.remaining c.args.reader.now) (g.W.Write.contents c.args.writer.now) (g.R.Read.remaining c.loop.reader) (g.W.Write.contents c.loop.writer) c.loop.invariant.1)

pub returns-in_err-answer_next-clause-stops : goal.returns-in_err-answer_next-clause-stops
returns-in_err-answer_next-clause-stops g c =
    let p = err_from_is_err_and c.from_residual.result c.from_residual.ensures.1 in
    rw (p.1, p.2) (inl c.in_err-answer_next.ensures.fails)

pub returns-clause-stops : goal.returns-clause-stops
returns-clause-stops g c =
    let read = c.loop.invariant.2 in
    let counted : 18446744073709551615 ≤ c.loop.counter = omega arith in
    inr (refl, (read.0, omega (arith, read.1, counted), read.2))

pub returns-in-Some-clause-handed : goal.returns-in-Some-clause-handed
returns-in-Some-clause-handed g c = handed_then g.W.Outgoing.hands c.args.writer.now c.loop.writer c.answer_next.new.writer c.loop.invariant.3 c.in_ok-answer_next.ensures.handed

pub returns-in_err-answer_next-clause-handed : goal.returns-in_err-answer_next-clause-handed
returns-in_err-answer_next-clause-handed g c =
    let p = err_from_is_err_and c.from_residual.result c.from_residual.ensures.1 in
    rw (p.1, p.2) (leaves_fault g.W.Outgoing.hands c.args.writer.now c.loop.writer c.answer_next.new.writer c.in_err-answer_next.field-0.0 c.loop.invariant.3 c.in_err-answer_next.ensures.handed)

pub returns-clause-handed : goal.returns-clause-handed
returns-clause-handed g c = c.loop.invariant.3
