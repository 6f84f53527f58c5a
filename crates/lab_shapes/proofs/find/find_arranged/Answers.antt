use Rattle.std.proofs.Common.{◌≡◌, ◌∙◌, arith, rules, sym, subst, IfSome}
use Rattle.lab_shapes.specs.Arranged.{IsPossibleAs}
use Rattle.lab_shapes.specs.Tried.{IsTriedWay}
use Rattle.lab_shapes.proofs.BetterLemmas.{best_of}
use Rattle.lab_shapes.proofs.FindLemmas.{numbers_all, numbers_more, numbers_start}
use Rattle.lab_shapes.proofs.TriedLemmas.{way_tried}
use Rattle.lab_shapes.proofs.find.find_arranged.Goals as goal

pub loop-number-init : goal.loop-number-init
loop-number-init g c = record {
  room = c.requires.whole;
  same = search rules;
  possible = subst (λ o. IfSome o IsPossibleAs) (sym c.requires.none) tt;
  better = λ all told size. numbers_start all c.args.room.best;
}

pub loop-number-preserved : goal.loop-number-preserved
loop-number-preserved g c =
    let inv = c.loop-number.invariant in
    record {
      room = c.try_way.ensures.room;
      same = c.try_way.ensures.same ∙ inv.same;
      possible = c.in_ok-try_way.ensures.possible inv.possible;
      better = λ all told size. numbers_more all c.loop-number.number _ _ _ _ c.way_of.ensures (inv.better all told size) (c.in_ok-try_way.ensures.better all (inv.same ∙ told) size);
    }

pub try_way-requires-clause-tried : goal.try_way-requires-clause-tried
try_way-requires-clause-tried g c = subst IsTriedWay (sym c.way_of.ensures) (way_tried c.loop-number.number)

pub returns-clause-best : goal.returns-clause-best
returns-clause-best g c = λ all told.
    let last : c.loop-number.number ≡ 1297 = omega (arith, c.loop-number-test.false, c.loop-number.auto.number-end) in
    best_of all c.args.room.best c.loop-number.room.best c.requires.none (numbers_all all c.loop-number.number _ _ last (c.loop-number.invariant.better all told (c.in_ok-size.ensures.size all told)))
