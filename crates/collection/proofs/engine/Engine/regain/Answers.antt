use Rattle.std.proofs.Common.{◌∙◌, inr, subst, ◌<◌}
use Rattle.std.proofs.lemmas.Result.{err_from_is_err_and}
use Rattle.collection.specs.Safe.{ram}
use Rattle.collection.proofs.Acts.{acts_then, acts_ok, acts_err}
use Rattle.collection.proofs.Looks.{none_from, ok_not_bus}
use Rattle.collection.proofs.HalfDone.{calm_idle, calm_by, unpinned_now, collects_more}
use Rattle.collection.proofs.Copies.{keys_then, refreshes_then}
use Rattle.collection.proofs.Rooms.{room_tells, on_then, erased_more, rearranged_then, room_refused, funded_then, refused_room, made_none, made_some, final_counts}
use Rattle.collection.proofs.Made.{not_resting, enough_made}
use Rattle.collection.proofs.Stops.{stops_then, IsSized}
use Rattle.collection.proofs.Cuts.{cut_after}
use Rattle.collection.proofs.Afters.{acts_ended, not_bus_ended}
use Rattle.allocation.specs.State.{free_count}
use Rattle.collection.proofs.engine.Engine.regain.Goals as goal

pub rounds-init : goal.rounds-init
rounds-init g c = record {
  acts = acts_ok _ _ _ _ c.in_ok-finish.ensures.acts;
  makes = c.in_ok-finish.ensures.makes;
  unpinned = c.in_ok-finish.ensures.unpinned;
  count = c.in_ok-finish.ensures.count;
  stops = λ honest w passed. c.in_ok-finish.ensures.stops honest w passed (ok_not_bus _);
}

-- with fewer free blocks than are wanted none is pinned
pub collect_block-requires-clause-idle : goal.collect_block-requires-clause-idle
collect_block-requires-clause-idle g c =
    let worth = made_some c.args.many (ram c.rounds.self) c.worth_below-worth.result c.in-Some.block c.worth_below-worth.ensures c.in-Some.is in
    calm_idle c.args.many (ram c.rounds.self) c.rounds.invariant.makes.calm c.rounds.invariant.unpinned worth.scarce

pub rounds-preserved : goal.rounds-preserved
rounds-preserved g c =
    let i = c.rounds.invariant in
    let m = i.makes in
    let e = c.collect_block.ensures in
    let done = c.in_ok-collect_block.ensures in
    let old = ram c.args.self.now in
    let now = ram c.rounds.self in
    let new = ram c.collect_block.new.self in
    let worth = made_some c.args.many now c.worth_below-worth.result c.in-Some.block c.worth_below-worth.ensures c.in-Some.is in
    record {
      acts = acts_then _ _ _ tt _ m.goes.geometry i.acts (acts_ok _ _ _ _ done.acts);
      makes = record {
        calm = calm_by new done.idle done.unpinned;
        goes = on_then c.in-Some.block old now new m.goes e.goes worth.victim.closed;
        keys = keys_then _ _ _ m.keys e.keys;
        refreshes = λ on. refreshes_then old now new m.goes.geometry (m.refreshes on) (e.refreshes on);
        collects = collects_more c.args.many c.args.flushing c.in-Some.block old now new m.collects (unpinned_now c.args.many now i.unpinned worth.scarce) worth done.cost;
        works = erased_more g.N.PageSource.view.erases _ _ _ m.works done.erases done.unpinned;
        rests = λ enough. absurd (not_resting c.args.many c.args.flushing c.args.self.now c.rounds.self m worth.scarce enough);
        tells = tt;
        truth = λ honest w passed.
            let k = m.truth honest w passed in
            rearranged_then old now new _ _ _ i.acts.safe.memory e.acts.safe.memory m.goes e.goes.geometry k (done.truth (i.acts.honest_is ∙ honest) k.truth).same;
        few = λ honest w passed few ne. done.few (i.acts.honest_is ∙ honest) (m.truth honest w passed).truth worth.small (ok_not_bus _);
      };
      unpinned = inr done.unpinned;
      count = λ honest w passed few failures enough. funded_then failures old now new m.goes.geometry (i.count honest w passed few failures enough) (done.count (i.acts.honest_is ∙ honest) (m.truth honest w passed).truth worth.small);
      stops = λ honest w passed.
          let k = m.truth honest w passed in
          stops_then old now _ _ _ _ _ _ (record { geometry = m.goes.geometry; capacity = m.keys.limits.capacity; share = m.keys.limits.share }) k.array (i.stops honest w passed) (done.stops (i.acts.honest_is ∙ honest) k.truth (ok_not_bus _));
    }

pub returns-in_default-clause-makes : goal.returns-in_default-clause-makes
returns-in_default-clause-makes g c = enough_made c.args.many c.args.flushing c.requires.least c.args.self.now c.rounds.self c.enough.result c.enough.ensures.err c.rounds.invariant.makes

pub returns-in_default-clause-count : goal.returns-in_default-clause-count
returns-in_default-clause-count g c = λ honest w passed few failures enough.
    let i = c.rounds.invariant in
    let made = made_none c.args.many (ram c.rounds.self) c.worth_below-worth.result c.worth_below-worth.ensures (none_from c.worth_below-worth.result c.in_default.not-Some) in
    final_counts c.args.many failures (ram c.args.self.now) (ram c.rounds.self) _ c.enough.result c.requires.least (i.makes.truth honest w passed).truth i.makes.goes.geometry i.makes.keys.limits.share made (i.count honest w passed few failures enough) c.enough.ensures.err

-- ---- a collection was refused

pub returns-in_err-finish : goal.returns-in_err-finish
returns-in_err-finish g c =
    let p = err_from_is_err_and c.from_residual.result c.from_residual.ensures.1 in
    rw (p.1, p.2) (record {
      acts = c.in_err-finish.ensures.acts;
      makes = c.in_err-finish.ensures.makes;
      room = tt;
      count = c.in_err-finish.ensures.count;
      stops = λ honest w passed ne. c.in_err-finish.ensures.stops honest w passed ne;
      cut = λ honest w passed is. c.in_err-finish.ensures.cut honest w passed is;
    })

pub returns-in_err-collect_block : goal.returns-in_err-collect_block
returns-in_err-collect_block g c =
    let p = err_from_is_err_and c.from_residual-in_err-collect_block.result c.from_residual-in_err-collect_block.ensures.1 in
    let i = c.rounds.invariant in
    let sized : IsSized (ram c.args.self.now) (ram c.rounds.self) = record { geometry = i.makes.goes.geometry; capacity = i.makes.keys.limits.capacity; share = i.makes.keys.limits.share } in
    rw (p.1, p.2) (record {
      acts = acts_then _ _ _ tt _ c.rounds.invariant.makes.goes.geometry c.rounds.invariant.acts (acts_err _ _ _ c.in_err-collect_block.ensures.acts);
      makes =
          let m = i.makes in
          let e = c.in_err-collect_block.ensures in
          let old = ram c.args.self.now in
          let now = ram c.rounds.self in
          let new = ram c.collect_block.new.self in
          let worth = made_some c.args.many now c.worth_below-worth.result c.in-Some.block c.worth_below-worth.ensures c.in-Some.is in
          record {
            calm = tt;
            goes = on_then c.in-Some.block old now new m.goes e.goes worth.victim.closed;
            keys = keys_then _ _ _ m.keys e.keys;
            refreshes = λ on. refreshes_then old now new m.goes.geometry (m.refreshes on) (e.refreshes on);
            works = tt;
            collects = tt;
            rests = λ enough. absurd (not_resting c.args.many c.args.flushing c.args.self.now c.rounds.self m worth.scarce enough);
            tells = room_tells c.args.flushing c.in-Some.block now new _ e.cost;
            truth = λ honest w passed.
                let k = m.truth honest w passed in
                room_refused old now new _ _ _ _ i.acts.safe.memory c.collect_block.ensures.acts.safe.memory m.goes e.goes.geometry k (e.truth (i.acts.honest_is ∙ honest) k.truth);
            few = λ honest w passed few ne. e.few (i.acts.honest_is ∙ honest) (m.truth honest w passed).truth worth.small ne;
          };
      room = tt;
      count = λ honest w passed few failures enough.
          let worth = made_some c.args.many (ram c.rounds.self) c.worth_below-worth.result c.in-Some.block c.worth_below-worth.ensures c.in-Some.is in
          refused_room c.args.many failures (ram c.args.self.now) (ram c.rounds.self) (ram c.collect_block.new.self) _ i.acts.safe.memory i.makes.goes.geometry
          (i.count honest w passed few failures enough)
          (c.in_err-collect_block.ensures.count (i.acts.honest_is ∙ honest) (i.makes.truth honest w passed).truth worth.small);
      stops = λ honest w passed ne.
          let k = i.makes.truth honest w passed in
          stops_then (ram c.args.self.now) (ram c.rounds.self) _ _ _ _ _ _ sized k.array (i.stops honest w passed) (c.in_err-collect_block.ensures.stops (i.acts.honest_is ∙ honest) k.truth ne);
      cut = λ honest w passed is.
          let k = i.makes.truth honest w passed in
          cut_after (ram c.args.self.now) (ram c.rounds.self) _ _ _ _ _ sized k.array (i.stops honest w passed) (c.in_err-collect_block.ensures.cut (i.acts.honest_is ∙ honest) k.truth is);
    })

-- ---- what a stop leaves

pub returns-in_default-clause-stops : goal.returns-in_default-clause-stops
returns-in_default-clause-stops g c = λ honest w passed ne. c.rounds.invariant.stops honest w passed

pub finish-requires-clause-safe : goal.finish-requires-clause-safe
finish-requires-clause-safe g c = c.requires.safe

pub finish-requires-clause-flushes : goal.finish-requires-clause-flushes
finish-requires-clause-flushes g c = c.requires.flushes

pub finish-requires-clause-calm : goal.finish-requires-clause-calm
finish-requires-clause-calm g c = c.requires.calm

pub collect_block-requires-clause-safe : goal.collect_block-requires-clause-safe
collect_block-requires-clause-safe g c = c.rounds.invariant.acts.safe

pub collect_block-requires-clause-flushes : goal.collect_block-requires-clause-flushes
collect_block-requires-clause-flushes g c = λ on. c.rounds.invariant.makes.keys.limits.share ∙ c.requires.flushes on

pub collect_block-requires-clause-block : goal.collect_block-requires-clause-block
collect_block-requires-clause-block g c =
    let worth = made_some c.args.many (ram c.rounds.self) c.worth_below-worth.result c.in-Some.block c.worth_below-worth.ensures c.in-Some.is in
    subst (λ x. c.in-Some.block < x.blocks) c.rounds.invariant.acts.safe.memory.blocks_of worth.victim.within

pub collect_block-requires-clause-closed : goal.collect_block-requires-clause-closed
collect_block-requires-clause-closed g c = (made_some c.args.many (ram c.rounds.self) c.worth_below-worth.result c.in-Some.block c.worth_below-worth.ensures c.in-Some.is).victim.closed

pub returns-in_default-clause-acts : goal.returns-in_default-clause-acts
returns-in_default-clause-acts g c = acts_ended (free_count (ram c.rounds.self).blocks < 5) c.args.self.now c.rounds.self c.enough.result c.enough.ensures.err c.rounds.invariant.acts

pub returns-in_default-clause-cut : goal.returns-in_default-clause-cut
returns-in_default-clause-cut g c = λ _ _ _ e. not_bus_ended (free_count (ram c.rounds.self).blocks < 5) c.enough.result c.enough.ensures.err e
