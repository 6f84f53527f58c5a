use Rattle.std.proofs.Common.{◌≡◌, inl, inr, [], length, get_or, Err, sym, ap, ◌∙◌, subst, arith}
use Rattle.std.proofs.lemmas.Bool.{cases_eq}
use Rattle.std.proofs.lemmas.List.{length-set}
use Rattle.lab_mend.proofs.InStepLemmas.{failed_at, at_end, known_other, files_count, long_at, still_at}
use Rattle.lab_mend.proofs.in_step.expect_ends.Goals as goal

pub loop-reading-preserved : goal.loop-reading-preserved
loop-reading-preserved g c =
    let f = g.R.DumpReader.remaining in
    let rs = c.loop-reading.readers in
    let first = c.args.readers.now in
    let i = c.loop-reading.reading in
    let r = c.index-readers-reading.result in
    let inv = c.loop-reading.invariant in
    record {
      count = length-set rs i c.expect_end.new.reader ∙ inv.count;
      unread = λ j l. known_other f rs i j c.expect_end.new.reader (λ e. (omega arith)) ∙ inv.unread j (omega arith);
      ended = λ files at start j l. elim (cases_eq j i) [
        | inl same ↦ subst (λ k. length (get_or files k []) ≡ at) (sym same)
            (at_end (f (get_or rs i r)) (get_or files i []) at (still_at f rs first files at i r (omega arith) (omega arith) (inv.unread i (omega arith)) start) c.in-Ok.ensures.ok)
        | inr ne ↦ inv.ended files at start j (omega arith)
      ];
    }

pub returns-in-Err-clause-failed : goal.returns-in-Err-clause-failed
returns-in-Err-clause-failed g c = elim c.in-Err.ensures.err [
  | inl is ↦ inr (failed_at g.R.DumpReader.failed c.loop-reading.readers c.loop-reading.reading c.expect_end.new.reader (omega arith) (c.expect_end.ensures.source (c.in-Err.is ∙ ap Err is)))
  | inr is ↦ inl is.0
]

pub returns-in-Err-clause-long : goal.returns-in-Err-clause-long
returns-in-Err-clause-long g c = λ files at start.
    let f = g.R.DumpReader.remaining in
    let rs = c.loop-reading.readers in
    let first = c.args.readers.now in
    let i = c.loop-reading.reading in
    let r = c.index-readers-reading.result in
    let inv = c.loop-reading.invariant in
    let count = files_count f first files at start in
    long_at (f (get_or rs i r)) files i at c.in-Err.fault (omega arith) (still_at f rs first files at i r (omega arith) (omega arith) (inv.unread i (omega arith)) start) (λ j l. (start.each j l).within) (λ j l. inv.ended files at start j l) c.in-Err.ensures.err

pub returns-clause-ended : goal.returns-clause-ended
returns-clause-ended g c = λ files at start i l.
    let count = files_count g.R.DumpReader.remaining c.args.readers.now files at start in
    c.loop-reading.invariant.ended files at start i (omega arith)
