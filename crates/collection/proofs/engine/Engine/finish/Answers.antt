use Rattle.std.proofs.Common.{◌≡◌, ◌<◌, arith}
use Rattle.allocation.specs.State.{free_count}
use Rattle.collection.specs.Safe.{ram}
use Rattle.collection.proofs.Acts.{acts_same}
use Rattle.collection.proofs.Rooms.{on_same, on_then}
use Rattle.collection.proofs.HalfDone.{calm_half, calm_ok, finished_erases, finished_tells, finished_collects, finished_truth, finished_counts}
use Rattle.collection.proofs.Made.{nothing_made}
use Rattle.promises.proofs.StopLemmas.{leaves_nothing}
use Rattle.collection.proofs.Stops.{same_left}
use Rattle.collection.proofs.engine.Engine.finish.Goals as goal

pub returns-in-Some-clause-makes : goal.returns-in-Some-clause-makes
returns-in-Some-clause-makes g c =
    let p = c.in-Some.pinned in
    let old = ram c.args.self.now in
    let new = ram c.collect_from.new.self in
    let half = calm_half old p c.requires.calm c.in-Some.is in
    let e = c.collect_from.ensures in
    let scarce : free_count old.blocks < c.args.many = omega (arith, c.if-free-many.true, c.free.ensures) in
    record {
      calm = calm_ok new c.collect_from.result e.idle e.unpinned;
      goes = on_then p.block old old new (on_same old) e.goes half.closed;
      keys = e.keys;
      refreshes = e.refreshes;
      collects = finished_collects c.args.many c.args.flushing p old new c.collect_from.result c.in-Some.is scarce e.cost;
      works = finished_erases g.N.PageSource.view.erases c.args.self.now c.collect_from.new.self c.collect_from.result e.erases e.unpinned;
      rests = λ enough. absurd (omega (arith, enough, scarce));
      tells = finished_tells c.args.flushing p.block old new c.collect_from.result e.cost;
      truth = λ honest w passed. finished_truth p.block old new _ _ c.collect_from.result c.requires.safe.memory e.acts.safe.memory e.goes.geometry w (e.truth honest w (passed p c.in-Some.is));
      few = λ honest w passed few ne. e.few honest w (passed p c.in-Some.is) (few p c.in-Some.is) ne;
    }

pub returns-in-Some-clause-count : goal.returns-in-Some-clause-count
returns-in-Some-clause-count g c = λ honest w passed few failures funded. finished_counts c.args.many failures (ram c.args.self.now) (ram c.collect_from.new.self)
    c.collect_from.result c.requires.safe.memory funded
    (c.collect_from.ensures.count honest w (passed c.in-Some.pinned c.in-Some.is) (few c.in-Some.pinned c.in-Some.is))

pub returns-in_default-clause-acts : goal.returns-in_default-clause-acts
returns-in_default-clause-acts g c = acts_same c.args.self.now c.requires.safe

pub returns-in_default-clause-makes : goal.returns-in_default-clause-makes
returns-in_default-clause-makes g c = nothing_made c.args.many c.args.flushing c.args.self.now c.requires.calm

pub returns-in_default-2-clause-acts : goal.returns-in_default-2-clause-acts
returns-in_default-2-clause-acts g c = acts_same c.args.self.now c.requires.safe

pub returns-in_default-2-clause-makes : goal.returns-in_default-2-clause-makes
returns-in_default-2-clause-makes g c = nothing_made c.args.many c.args.flushing c.args.self.now c.requires.calm

-- ---- what a stop leaves

pub returns-in-Some-clause-stops : goal.returns-in-Some-clause-stops
returns-in-Some-clause-stops g c = λ honest w passed ne. c.collect_from.ensures.stops honest w (passed c.in-Some.pinned c.in-Some.is) ne

pub returns-in_default-clause-stops : goal.returns-in_default-clause-stops
returns-in_default-clause-stops g c = λ honest w passed ne. leaves_nothing _ _ _ (same_left (ram c.args.self.now) _ _ c.requires.safe.memory w)

pub returns-in_default-2-clause-stops : goal.returns-in_default-2-clause-stops
returns-in_default-2-clause-stops g c = λ honest w passed ne. leaves_nothing _ _ _ (same_left (ram c.args.self.now) _ _ c.requires.safe.memory w)

-- ---- what a fault of the die leaves

pub returns-in-Some-clause-cut : goal.returns-in-Some-clause-cut
returns-in-Some-clause-cut g c = λ honest w passed is. c.collect_from.ensures.cut honest w (passed c.in-Some.pinned c.in-Some.is) is
