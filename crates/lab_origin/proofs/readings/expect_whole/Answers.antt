use Rattle.std.proofs.Common.{inl, inr, None, length, get_or, map, sym, ap, subst, arith}
use Rattle.std.proofs.lemmas.Bool.{cases_eq}
use Rattle.std.proofs.lemmas.List.{length-map}
use Rattle.lab_origin.specs.Traced.{IsOfRightLength, IsOfWrongLength}
use Rattle.lab_origin.proofs.ReadingLemmas.{all_whole, asked_is, asked_same, failed_at, odd_at, right_at}
use Rattle.lab_origin.proofs.readings.expect_whole.Goals as goal

pub returns-in-Ok-false-clause-same : goal.returns-in-Ok-false-clause-same
returns-in-Ok-false-clause-same g c =
    asked_same g.D.Dump.bytes c.loop-place.readings c.args.readings.now c.loop-place.place c.is_whole.new.dump c.index-readings-place.result c.loop-place.invariant.same c.is_whole.ensures.same

pub returns-in-Err-clause-same : goal.returns-in-Err-clause-same
returns-in-Err-clause-same g c =
    asked_same g.D.Dump.bytes c.loop-place.readings c.args.readings.now c.loop-place.place c.is_whole.new.dump c.index-readings-place.result c.loop-place.invariant.same c.is_whole.ensures.same

pub returns-in-Err-clause-fault : goal.returns-in-Err-clause-fault
returns-in-Err-clause-fault g c = failed_at g.D.Dump.failed c.loop-place.readings c.loop-place.place c.is_whole.new.dump (omega arith) c.in-Err.ensures.failed

pub returns-in-Ok-false-clause-other : goal.returns-in-Ok-false-clause-other
returns-in-Ok-false-clause-other g c =
    let geo = c.args.geometry.now in
    let inv = c.loop-place.invariant in
    let is = asked_is g.D.Dump.bytes c.loop-place.readings c.args.readings.now c.loop-place.place c.index-readings-place.result inv.same (omega arith) in
    record {
      odd = subst (IsOfWrongLength geo) (sym is) (odd_at geo _ (λ all told whole. absurd (let yes = (c.in-Ok-false.ensures.whole all told).1 whole in let no = c.in-Ok-false.field-0-test in cc)));
      before = inv.before;
    }

pub returns-clause-whole : goal.returns-clause-whole
returns-clause-whole g c = λ files told.
    let f = g.D.Dump.bytes in
    let rs = c.args.readings.now in
    let inv = c.loop-place.invariant in
    all_whole c.args.geometry.now (map f rs) files c.loop-place.place told (omega (arith, length-map rs f, length-map c.loop-place.readings f, ap length inv.same)) inv.before

pub loop-place-preserved : goal.loop-place-preserved
loop-place-preserved g c =
    let f = g.D.Dump.bytes in
    let rs = c.loop-place.readings in
    let first = c.args.readings.now in
    let p = c.loop-place.place in
    let r = c.index-readings-place.result in
    let geo = c.args.geometry.now in
    let inv = c.loop-place.invariant in
    record {
      same = asked_same f rs first p c.is_whole.new.dump r inv.same c.is_whole.ensures.same;
      before = λ i l. elim (cases_eq i p) [
        | inl same ↦ subst (λ k. IsOfRightLength geo (get_or (map f first) k None)) (sym same)
            (subst (IsOfRightLength geo) (sym (asked_is f rs first p r inv.same (omega arith))) (right_at geo _ (λ all told. (c.in-Ok-true.ensures.whole all told).0 c.in-Ok-true.field-0-test)))
        | inr ne ↦ inv.before i (omega arith)
      ];
    }
