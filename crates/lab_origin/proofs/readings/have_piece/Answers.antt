use Rattle.std.proofs.Common.{◌∙◌, [], get_or, sym, arith}
use Rattle.lab_origin.proofs.ReadingLemmas.{asked_same, failed_at, none_more, none_of_all, one_has, tell_at, tell_count}
use Rattle.lab_origin.proofs.readings.have_piece.Goals as goal

pub returns-in-Ok-true-clause-found : goal.returns-in-Ok-true-clause-found
returns-in-Ok-true-clause-found g c = λ files told.
    let f = g.D.Dump.bytes in
    let rs = c.loop-place.readings in
    let i = c.loop-place.place in
    let r = c.index-readings-place.result in
    let now = c.loop-place.invariant.same ∙ told in
    let count = tell_count f rs files now in
    one_has c.args.at c.args.piece.now files i (omega arith) (sym c.in-Ok-true.field-0-test ∙ c.in-Ok-true.ensures.found (get_or files i []) (tell_at f rs files i r now (omega arith)))

pub returns-in-Ok-true-clause-same : goal.returns-in-Ok-true-clause-same
returns-in-Ok-true-clause-same g c =
    asked_same g.D.Dump.bytes c.loop-place.readings c.args.readings.now c.loop-place.place c.has_piece.new.reading c.index-readings-place.result c.loop-place.invariant.same c.has_piece.ensures.same

pub returns-in-Err-clause-same : goal.returns-in-Err-clause-same
returns-in-Err-clause-same g c =
    asked_same g.D.Dump.bytes c.loop-place.readings c.args.readings.now c.loop-place.place c.has_piece.new.reading c.index-readings-place.result c.loop-place.invariant.same c.has_piece.ensures.same

pub returns-in-Err-clause-failed : goal.returns-in-Err-clause-failed
returns-in-Err-clause-failed g c = failed_at g.D.Dump.failed c.loop-place.readings c.loop-place.place c.has_piece.new.reading (omega arith) c.in-Err.ensures.failed

pub loop-place-preserved : goal.loop-place-preserved
loop-place-preserved g c =
    let f = g.D.Dump.bytes in
    let rs = c.loop-place.readings in
    let i = c.loop-place.place in
    let r = c.index-readings-place.result in
    let inv = c.loop-place.invariant in
    record {
      size = c.has_piece.ensures.size ∙ inv.size;
      same = asked_same f rs c.args.readings.now i c.has_piece.new.reading r inv.same c.has_piece.ensures.same;
      none = λ files told.
          let now = inv.same ∙ told in
          let count = tell_count f rs files now in
          none_more c.args.at c.args.piece.now files i (omega arith) (inv.none files told) (sym c.in-Ok-false.field-0-test ∙ c.in-Ok-false.ensures.found (get_or files i []) (tell_at f rs files i r now (omega arith)));
    }

pub returns-clause-found : goal.returns-clause-found
returns-clause-found g c = λ files told.
    let f = g.D.Dump.bytes in
    let rs = c.loop-place.readings in
    let inv = c.loop-place.invariant in
    let count = tell_count f rs files (inv.same ∙ told) in
    none_of_all c.args.at c.args.piece.now files c.loop-place.place (omega arith) (inv.none files told)
