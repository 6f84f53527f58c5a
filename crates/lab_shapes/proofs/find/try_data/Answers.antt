use Rattle.std.proofs.Common.{◌≡◌, ◌∙◌, arith, rules, subst}
use Rattle.lab_shapes.specs.Better.{Improves, InData}
use Rattle.lab_shapes.proofs.BetterLemmas.{Below, below_all, below_more, below_start, possible_then}
use Rattle.lab_shapes.proofs.FindLemmas.{spare_least, spare_most, spare_of}
use Rattle.lab_shapes.proofs.find.try_data.Goals as goal

pub loop-spare_bytes-init : goal.loop-spare_bytes-init
loop-spare_bytes-init g c = record {
  room = c.requires.room;
  same = search rules;
  possible = λ h. h;
  better = λ all told size. below_start (InData all c.args.way.now c.args.data_bytes) spare_of 32 c.args.room.now.best (λ y q. spare_least all y q.0.0);
}

pub loop-spare_bytes-preserved : goal.loop-spare_bytes-preserved
loop-spare_bytes-preserved g c =
    let inv = c.loop-spare_bytes.invariant in
    record {
      room = c.try_areas.ensures.room;
      same = c.try_areas.ensures.same ∙ inv.same;
      possible = possible_then _ _ _ inv.possible c.in_ok-try_areas.ensures.possible;
      better = λ all told size. below_more (InData all c.args.way.now c.args.data_bytes) spare_of c.loop-spare_bytes.spare_bytes _ _ _ (inv.better all told size) (c.in_ok-try_areas.ensures.better all (inv.same ∙ told) size);
    }

pub returns-clause-better : goal.returns-clause-better
returns-clause-better g c = λ all told size.
    let last : c.loop-spare_bytes.spare_bytes ≡ 257 = omega (arith, c.loop-spare_bytes-test.false, c.loop-spare_bytes.auto.spare_bytes, c.loop-spare_bytes.auto.spare_bytes-end) in
    below_all (InData all c.args.way.now c.args.data_bytes) spare_of 257 _ _ (λ y q. spare_most all y q.0.0)
    (subst (λ n. Improves (Below (InData all c.args.way.now c.args.data_bytes) spare_of n) c.args.room.now.best c.loop-spare_bytes.room.best) last (c.loop-spare_bytes.invariant.better all told size))
