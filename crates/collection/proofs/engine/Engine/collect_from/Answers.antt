use Rattle.std.proofs.Common.{◌∙◌, Ok, Err, ap, sym, refl}
use Rattle.std.proofs.lemmas.Result.{err_from_is_err_and}
use Rattle.page_layout.specs.Counter.{counted}
use Rattle.collection.specs.Safe.{ram}
use Rattle.collection.proofs.Acts.{acts_same, acts_then, acts_ok, acts_err}
use Rattle.collection.proofs.Memory.{goes_same, goes_then}
use Rattle.collection.proofs.Looks.{none_from, ok_not_bus}
use Rattle.collection.proofs.Puts.{refused_then}
use Rattle.collection.proofs.Copies.{keys_same, keys_then, refreshes_same, refreshes_then}
use Rattle.collection.proofs.Ledgers.{begun, stepped, still_goes, still_erased, once_erased, room_next, steps_fall, but_then, ends_erased, erased_by, emptied_by, emptied_then, none_due_by, collected_cost, collected_few, less_work, counts_collected, thrifty_erased, thrifty_refused}
use Rattle.collection.proofs.Ledgers.{begins_small, refused_cost, refused_counts, closed_still, released_from, undamaged, within_by}
use Rattle.collection.proofs.HalfDone.{due_few, due_first, pin_next, pin_erased, few_left, unpinned_few}
use Rattle.collection.proofs.PageReads.{none_read, read_more, read_all}
use Rattle.collection.specs.Whole.{next_of}
use Rattle.promises.proofs.StopLemmas.{leaves_nothing}
use Rattle.collection.proofs.Stops.{same_left, stops_then, IsSized}
use Rattle.collection.proofs.Costs.{not_bus}
use Rattle.collection.proofs.Cuts.{cut_after}
use Rattle.collection.proofs.Steps.{err_same}
use Rattle.collection.proofs.engine.Engine.collect_from.Goals as goal

pub steps-init : goal.steps-init
steps-init g c = record {
  acts = acts_same _ c.requires.safe;
  goes = goes_same (ram c.args.self.now);
  as_erased = refl;
  keys = keys_same c.args.self.now.mapping c.args.self.now.mapping refl;
  refreshes = λ on. refreshes_same (ram c.args.self.now) (ram c.args.self.now) refl refl;
  pinned = c.requires.pinned;
  room = c.requires.half_done.passed;
  closed = c.requires.half_done.closed;
  reads = none_read c.args.flushing c.args.pinned.first (ram c.args.self.now) _ (λ on. due_first c.args.flushing (ram c.args.self.now) c.args.pinned c.requires.unmarked (c.requires.flushes on) c.requires.half_done) c.requires.half_done.passed c.requires.half_done.on_die;
  under_way = begun c.args.flushing c.args.pinned.block c.args.pinned.first (ram c.args.self.now) _ _ c.requires.safe.memory (λ k. k.1) (λ k. k.2);
  stops = λ honest w passed. leaves_nothing _ _ _ (same_left (ram c.args.self.now) _ _ c.requires.safe.memory w);
}

-- each step begins half-done
pub step_on-requires-clause-half_done : goal.step_on-requires-clause-half_done
step_on-requires-clause-half_done g c =
    let i = c.steps.invariant in
    record { within = rw i.goes.geometry c.requires.half_done.within; closed = i.closed; passed = i.room; on_die = rw i.goes.geometry i.reads.within }

pub steps-preserved : goal.steps-preserved
steps-preserved g c =
    let i = c.steps.invariant in
    let old = ram c.args.self.now in
    let now = ram c.steps.self in
    let new = ram c.step_on.new.self in
    let is = sym c.next_page-going_on.ensures ∙ c.in-Some.is in
    let goes = still_goes _ c.in-Some.next c.in_ok-step.step now new is c.in_ok-step.ensures.goes_still in
    record {
      acts = acts_then _ _ _ tt _ i.goes.geometry i.acts (acts_ok _ _ _ _ c.in_ok-step.ensures.acts);
      goes = goes_then old now new i.goes goes;
      as_erased = still_erased _ c.in-Some.next c.in_ok-step.step _ _ is c.in_ok-step.ensures.erases ∙ i.as_erased;
      keys = keys_then _ _ _ i.keys c.step_on.ensures.keys;
      refreshes = λ on. refreshes_then old now new i.goes.geometry (i.refreshes on) (c.step_on.ensures.refreshes on);
      pinned = c.in_ok-step.ensures.next ∙ pin_next c.args.pinned.block _ c.in-Some.next c.in_ok-step.step (ap (λ p. next_of p c.in_ok-step.step) (ap (λ x. x.pages) i.goes.geometry) ∙ (ap (λ p. next_of p c.in_ok-step.step) (sym c.pages-pages.ensures) ∙ is));
      room = room_next c.args.flushing c.args.pinned.block c.steps.first c.in-Some.next _ now new c.in_ok-step.step c.step_on.ensures.acts.safe.memory (c.pages-pages.ensures ∙ ap (λ x. x.pages) (sym (goes.geometry ∙ i.goes.geometry))) goes.geometry i.room is c.in_ok-step.ensures.cost;
      closed = closed_still c.args.pinned.block now new goes (rw i.goes.geometry c.requires.half_done.within) i.closed;
      reads = read_more c.args.flushing c.args.pinned.block c.args.pinned.first c.steps.first c.in-Some.next old now new _ _ _ c.in_ok-step.step
          i.goes.geometry (goes.geometry ∙ i.goes.geometry) i.reads (ap (λ p. next_of p c.in_ok-step.step) (sym c.pages-pages.ensures) ∙ is)
          c.in_ok-step.ensures.cost c.step_on.ensures.reads c.in_ok-step.ensures.copied_reads;
      under_way = stepped c.args.flushing c.args.pinned.block c.steps.first c.in-Some.next old now new _ _ _ _ i.acts.safe.memory
          c.step_on.ensures.acts.safe.memory i.goes c.requires.half_done.within i.under_way c.in_ok-step.step c.in_ok-step.ensures.goes_still
          (ap (λ p. next_of p c.in_ok-step.step) (sym c.pages-pages.ensures) ∙ is) c.in_ok-step.ensures.cost
          (λ k w none. c.in_ok-step.ensures.truth (i.acts.honest_is ∙ k.0) w none);
      stops = λ honest w passed.
          let so = i.under_way.truth (honest, w, passed) in
          let sized : IsSized (ram c.args.self.now) (ram c.steps.self) = record { geometry = i.goes.geometry; capacity = i.keys.limits.capacity; share = i.keys.limits.share } in
          stops_then old now _ _ _ _ _ _ sized so.same.array (i.stops honest w passed) (c.in_ok-step.ensures.stops (i.acts.honest_is ∙ honest) so.same.truth (let n = so.none in rw i.goes.geometry n) (ok_not_bus _));
    }

pub steps-smaller : goal.steps-smaller
steps-smaller g c =
    let i = c.steps.invariant in
    let old = ram c.args.self.now in
    let now = ram c.steps.self in
    let new = ram c.step_on.new.self in
    let is = sym c.next_page-going_on.ensures ∙ c.in-Some.is in
    steps_fall c.args.flushing c.args.pinned.block c.steps.first c.in-Some.next _ now new c.in_ok-step.step c.step_on.ensures.acts.safe.memory is c.in_ok-step.ensures.cost

-- ---- the block was erased

pub returns-in_default : goal.returns-in_default
returns-in_default g c =
    let e = ends_erased _ c.in_ok-step.step (sym c.next_page-going_on.ensures ∙ none_from c.next_page-going_on.result c.in_default.not-Some) in
    let i = c.steps.invariant in
    let old = ram c.args.self.now in
    let now = ram c.steps.self in
    let new = ram c.step_on.new.self in
    record {
      acts = acts_then _ _ _ tt _ c.steps.invariant.goes.geometry c.steps.invariant.acts (acts_ok _ _ _ _ c.in_ok-step.ensures.acts);
      idle = c.in_ok-step.ensures.idle (ap Ok e);
      unpinned = c.in_ok-step.ensures.next ∙ pin_erased c.args.pinned.block _ c.in_ok-step.step e;
      goes = but_then c.args.pinned.block _ _ _ c.steps.invariant.goes c.step_on.ensures.goes;
      released = released_from c.args.pinned.block old now new i.goes c.requires.half_done.within c.requires.half_done.closed (c.in_ok-step.ensures.released (ap Ok e));
      keys = keys_then _ _ _ c.steps.invariant.keys c.step_on.ensures.keys;
      refreshes = λ on. refreshes_then _ _ _ c.steps.invariant.goes.geometry (c.steps.invariant.refreshes on) (c.step_on.ensures.refreshes on);
      cost = collected_cost c.args.flushing c.args.pinned.block c.steps.first old now new _ _ _ i.under_way
          (none_due_by c.args.flushing c.args.pinned.block c.steps.first now new c.in_ok-step.step e c.in_ok-step.ensures.cost)
          (erased_by c.args.flushing c.args.pinned.block c.steps.first now new c.in_ok-step.step e c.in_ok-step.ensures.cost);
      sparing = λ honest w passed idle.
          collected_few c.args.flushing c.args.pinned.block c.steps.first old now new _ _ _ (honest, w, passed) (λ on. (c.requires.flushes on, due_few c.args.flushing (ram c.args.self.now) c.requires.unmarked)) idle.few i.under_way
          (none_due_by c.args.flushing c.args.pinned.block c.steps.first now new c.in_ok-step.step e c.in_ok-step.ensures.cost)
          (erased_by c.args.flushing c.args.pinned.block c.steps.first now new c.in_ok-step.step e c.in_ok-step.ensures.cost);
      reads = read_all c.args.flushing c.args.pinned.first c.steps.first (ram c.args.self.now) (ram c.steps.self) _ _ _ c.steps.invariant.acts.safe.memory c.steps.invariant.goes.geometry c.steps.invariant.reads c.step_on.ensures.reads;
      erases = once_erased c.in_ok-step.step _ _ e c.in_ok-step.ensures.erases ∙ ap counted c.steps.invariant.as_erased;
      less_work = less_work c.args.flushing c.args.pinned.block c.steps.first old now new _ _ _ i.acts.safe.memory c.step_on.ensures.acts.safe.memory i.goes.geometry i.under_way (erased_by c.args.flushing c.args.pinned.block c.steps.first now new c.in_ok-step.step e c.in_ok-step.ensures.cost);
      truth = λ honest w passed.
          let so = i.under_way.truth (honest, w, passed) in
          emptied_then c.args.pinned.block c.steps.first _ old now new _ _ _ i.goes c.step_on.ensures.goes.geometry so
          (emptied_by c.args.pinned.block now new _ _ c.in_ok-step.step e
          (c.in_ok-step.ensures.truth (i.acts.honest_is ∙ honest) so.same.truth (let n = so.none in rw i.goes.geometry n)));
      count = λ honest w passed small.
          counts_collected c.args.flushing c.args.pinned.block c.steps.first old now new _ _ _ c.step_on.ensures.acts.safe.memory
          (c.step_on.ensures.goes.geometry ∙ i.goes.geometry) (honest, w, passed) (begins_small (ram c.args.self.now) c.args.pinned small)
          (λ on. (c.requires.flushes on, due_few c.args.flushing (ram c.args.self.now) c.requires.unmarked)) i.under_way
          (erased_by c.args.flushing c.args.pinned.block c.steps.first now new c.in_ok-step.step e c.in_ok-step.ensures.cost);
      thrifty = λ honest w passed small ne.
          thrifty_erased c.args.flushing c.args.pinned.block c.steps.first old now new _ _ _ (honest, w, passed) (begins_small (ram c.args.self.now) c.args.pinned small)
          (λ on. (c.requires.flushes on, due_few c.args.flushing (ram c.args.self.now) c.requires.unmarked)) i.under_way
          (erased_by c.args.flushing c.args.pinned.block c.steps.first now new c.in_ok-step.step e c.in_ok-step.ensures.cost);
      few = λ honest w passed small ne.
          unpinned_few (ram c.step_on.new.self) (c.in_ok-step.ensures.next ∙ pin_erased c.args.pinned.block _ c.in_ok-step.step e);
      stops = λ honest w passed ne.
          let so = i.under_way.truth (honest, w, passed) in
          let before = i.stops honest w passed in
          let sized : IsSized (ram c.args.self.now) (ram c.steps.self) = record { geometry = i.goes.geometry; capacity = i.keys.limits.capacity; share = i.keys.limits.share } in
          let now = i.acts.honest_is ∙ honest in
          stops_then (ram c.args.self.now) (ram c.steps.self) _ _ _ _ _ _ sized so.same.array before (c.in_ok-step.ensures.stops now so.same.truth (let n = so.none in rw i.goes.geometry n) (ok_not_bus _));
      cut = λ _ _ _ is. absurd (ok_not_bus _ is);
    }

-- ---- a step was refused

pub returns-in_err-step : goal.returns-in_err-step
returns-in_err-step g c =
    let p = err_from_is_err_and c.from_residual.result c.from_residual.ensures.1 in
    let i = c.steps.invariant in
    let old = ram c.args.self.now in
    let now = ram c.steps.self in
    let new = ram c.step_on.new.self in
    let sized : IsSized (ram c.args.self.now) (ram c.steps.self) = record { geometry = i.goes.geometry; capacity = i.keys.limits.capacity; share = i.keys.limits.share } in
    rw (p.1, p.2) (record {
      acts = acts_then _ _ _ tt _ c.steps.invariant.goes.geometry c.steps.invariant.acts (acts_err _ _ _ c.in_err-step.ensures.acts);
      idle = tt;
      unpinned = tt;
      goes = but_then c.args.pinned.block _ _ _ c.steps.invariant.goes c.step_on.ensures.goes;
      released = tt;
      keys = keys_then _ _ _ c.steps.invariant.keys c.step_on.ensures.keys;
      refreshes = λ on. refreshes_then _ _ _ c.steps.invariant.goes.geometry (c.steps.invariant.refreshes on) (c.step_on.ensures.refreshes on);
      cost = refused_cost c.args.flushing c.args.pinned.block c.steps.first old now new _ _ _ _ i.under_way c.in_err-step.ensures.cost;
      sparing = λ _ _ _ _. tt;
      reads = read_all c.args.flushing c.args.pinned.first c.steps.first (ram c.args.self.now) (ram c.steps.self) _ _ _ c.steps.invariant.acts.safe.memory c.steps.invariant.goes.geometry c.steps.invariant.reads c.step_on.ensures.reads;
      erases = tt;
      less_work = tt;
      truth = λ honest w passed.
          let so = i.under_way.truth (honest, w, passed) in
          refused_then old now new _ _ _ i.goes c.step_on.ensures.goes.geometry _ so.same (c.in_err-step.ensures.truth (i.acts.honest_is ∙ honest) so.same.truth (let n = so.none in rw i.goes.geometry n));
      count = λ honest w passed small.
          let so = i.under_way.truth (honest, w, passed) in
          refused_counts c.args.flushing c.args.pinned.block c.steps.first old now new _ _ _ _ _ i.goes.geometry (honest, w, passed) (begins_small (ram c.args.self.now) c.args.pinned small)
          (λ on. (c.requires.flushes on, due_few c.args.flushing (ram c.args.self.now) c.requires.unmarked)) i.under_way (λ is. c.in_err-step.ensures.owed (ap (λ f. Err f) is))
          c.in_err-step.ensures.cost
          (c.in_err-step.ensures.truth (i.acts.honest_is ∙ honest) so.same.truth (let n = so.none in rw i.goes.geometry n));
      thrifty = λ honest w passed small.
          let so = i.under_way.truth (honest, w, passed) in
          λ ne. thrifty_refused c.args.flushing c.args.pinned.block c.steps.first old now new _ _ _ _ (honest, w, passed) (begins_small (ram c.args.self.now) c.args.pinned small)
          (λ on. (c.requires.flushes on, due_few c.args.flushing (ram c.args.self.now) c.requires.unmarked)) i.under_way c.in_err-step.ensures.cost
          (undamaged _ _ _ _ _ (c.in_err-step.ensures.truth (i.acts.honest_is ∙ honest) so.same.truth (let n = so.none in rw i.goes.geometry n)))
          (λ e. ne (ap (λ f. Err f) e));
      few = λ honest w passed small.
          let so = i.under_way.truth (honest, w, passed) in
          λ ne. few_left (ram c.args.self.now) now new c.args.pinned c.steps.first _ _ _ i.acts.safe.memory c.step_on.ensures.acts.safe.memory
          i.goes.geometry c.step_on.ensures.goes.geometry c.requires.half_done.within i.closed
          c.in_err-step.ensures.unmoved i.keys.limits.share (c.in_err-step.ensures.next ∙ i.pinned) small so.same.truth _ so.copies_left
          so.few (c.in_err-step.ensures.truth (i.acts.honest_is ∙ honest) so.same.truth (let n = so.none in rw i.goes.geometry n))
          (λ e. ne (ap (λ f. Err f) e));
      stops = λ honest w passed ne.
          let so = i.under_way.truth (honest, w, passed) in
          let before = i.stops honest w passed in
          let now = i.acts.honest_is ∙ honest in
          stops_then (ram c.args.self.now) (ram c.steps.self) _ _ _ _ _ _ sized so.same.array before (c.in_err-step.ensures.stops now so.same.truth (let n = so.none in rw i.goes.geometry n) (not_bus _ ne));
      cut = λ honest w passed is.
          let so = i.under_way.truth (honest, w, passed) in
          let before = i.stops honest w passed in
          let now = i.acts.honest_is ∙ honest in
          cut_after (ram c.args.self.now) (ram c.steps.self) _ _ _ _ _ sized so.same.array before (c.in_err-step.ensures.cut now so.same.truth (let n = so.none in rw i.goes.geometry n) (err_same _ _ is));
    })

pub step_on-requires-clause-safe : goal.step_on-requires-clause-safe
step_on-requires-clause-safe g c = c.steps.invariant.acts.safe

pub next_page-going_on-requires : goal.next_page-going_on-requires
next_page-going_on-requires g c = within_by c.args.flushing c.args.pinned.block c.steps.first _ (ram c.steps.self) (ram c.step_on.new.self) c.in_ok-step.step
    (c.pages-pages.ensures ∙ ap (λ x. x.pages) (sym c.steps.invariant.goes.geometry)) c.in_ok-step.ensures.cost
