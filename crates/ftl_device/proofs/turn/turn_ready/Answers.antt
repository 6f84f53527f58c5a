use Rattle.std.proofs.Common.{◌∙◌, Err, refl, ap}
use Rattle.std.proofs.lemmas.Result.{err_from_is_err_and}
use Rattle.collection.specs.Safe.{ram}
use Rattle.collection.proofs.Looks.{ok_not_bus}
use Rattle.ftl_device.proofs.FlushRuns.{stuck_then, kept_then}
use Rattle.ftl_device.proofs.RoomLemmas.{rescued_by, rescue_worked}
use Rattle.ftl_device.proofs.RescueLemmas.{kept_unroomed, passes_room, kept_rescue_refused, kept_rescue}
use Rattle.ftl_device.proofs.SpentLemmas.{rescue_short, rescue_stuck, unroomed_short}
use Rattle.ftl_device.proofs.StepLemmas.{no_rescue, resting, moved_less, step_short, step_short_of, quiet_then, fallen_then, none_worked, rescue_falls, collected_rescued, rescue_works}
use Rattle.ftl_device.proofs.TurnedLemmas.{rescue_turned, collect_turned}
use Rattle.ftl_device.proofs.BringLemmas.{made_room, lowest_by, lowest_none}
use Rattle.ftl_device.proofs.AnswerLemmas.{no_true, no_err, no_memory, call_of_turn}
use Rattle.ftl_device.proofs.turn.turn_ready.Goals as goal

-- ---- no room was made

pub returns-in_err-make_room-clause-kept : goal.returns-in_err-make_room-clause-kept
returns-in_err-make_room-clause-kept g c =
    let p = err_from_is_err_and c.from_residual.result c.from_residual.ensures.1 in
    rw (p.1, p.2)
    (kept_unroomed g.N.PageSource.view c.args.engine.now c.make_room.new.engine _ c.in_err-make_room.ensures.leaves c.make_room.ensures.keys.limits c.in_err-make_room.ensures.truth c.in_err-make_room.ensures.pinned)

pub returns-in_err-make_room-clause-honestly : goal.returns-in_err-make_room-clause-honestly
returns-in_err-make_room-clause-honestly g c =
    let p = err_from_is_err_and c.from_residual.result c.from_residual.ensures.1 in
    rw p.1 (λ honest w. tt)

pub returns-in_err-make_room-clause-count : goal.returns-in_err-make_room-clause-count
returns-in_err-make_room-clause-count g c =
    let p = err_from_is_err_and c.from_residual.result c.from_residual.ensures.1 in
    rw (p.1, p.2) (λ known five. unroomed_short _ (ram c.args.engine.now) (ram c.make_room.new.engine) (c.in_err-make_room.ensures.count known.0 known.1 0 known.2))

pub returns-in_err-make_room-clause-rests : goal.returns-in_err-make_room-clause-rests
returns-in_err-make_room-clause-rests g c = λ none unpinned twelve. absurd (no_true (c.in_err-make_room.ensures.rests (call_of_turn (ram c.args.engine.now) twelve)).0)

pub returns-in_err-make_room-clause-memory : goal.returns-in_err-make_room-clause-memory
returns-in_err-make_room-clause-memory g c =
    let p = err_from_is_err_and c.from_residual.result c.from_residual.ensures.1 in
    no_memory _ _ (p.1 ∙ ap Err p.2)

pub returns-in_err-make_room-clause-turned : goal.returns-in_err-make_room-clause-turned
returns-in_err-make_room-clause-turned g c =
    let p = err_from_is_err_and c.from_residual.result c.from_residual.ensures.1 in
    rw p.1 tt

-- ---- the rescue was refused

pub returns-in_err-rescue_one-clause-kept : goal.returns-in_err-rescue_one-clause-kept
returns-in_err-rescue_one-clause-kept g c =
    let p = err_from_is_err_and c.from_residual-in_err-rescue_one.result c.from_residual-in_err-rescue_one.ensures.1 in
    let room = passes_room g.N.PageSource.view c.args.engine.now c.make_room.new.engine c.in_ok-make_room.ensures.leaves c.make_room.ensures.keys.limits c.in_ok-make_room.ensures.truth c.in_ok-make_room.ensures.pinned in
    rw (p.1, p.2)
    (kept_rescue_refused g.N.PageSource.view c.args.engine.now c.make_room.new.engine room c.rescue_one.new.self c.rescue_one.ensures.goes c.rescue_one.ensures.keys _
    c.in_err-rescue_one.ensures.stands c.in_err-rescue_one.ensures.cost c.in_err-rescue_one.ensures.stops c.in_err-rescue_one.ensures.cut c.rescue_one.ensures.pin c.rescue_one.ensures.one_more
    c.in_err-rescue_one.ensures.truth)

pub returns-in_err-rescue_one-clause-turned : goal.returns-in_err-rescue_one-clause-turned
returns-in_err-rescue_one-clause-turned g c =
    let p = err_from_is_err_and c.from_residual-in_err-rescue_one.result c.from_residual-in_err-rescue_one.ensures.1 in
    rw p.1 tt

pub returns-in_err-rescue_one-clause-count : goal.returns-in_err-rescue_one-clause-count
returns-in_err-rescue_one-clause-count g c =
    let p = err_from_is_err_and c.from_residual-in_err-rescue_one.result c.from_residual-in_err-rescue_one.ensures.1 in
    rw (p.1, p.2)
    (λ known five. rescue_stuck (ram c.args.engine.now) (ram c.make_room.new.engine) (ram c.rescue_one.new.self) c.requires.safe.memory
    c.make_room.ensures.leaves.safe.memory c.rescue_one.ensures.stands.safe.memory c.in_ok-make_room.ensures.made c.rescue_one.ensures.goes
    (c.in_ok-make_room.ensures.count known.0 known.1 0 known.2) _ (c.in_err-rescue_one.ensures.cost c.in_ok-make_room.ensures.leaves.fault))

pub returns-in_err-rescue_one-clause-rests : goal.returns-in_err-rescue_one-clause-rests
returns-in_err-rescue_one-clause-rests g c = λ none unpinned twelve. absurd (no_rescue c.args.engine.now c.make_room.new.engine (c.in_ok-make_room.ensures.rests (call_of_turn (ram c.args.engine.now) twelve)).1 none (c.if-needs_rescue.ensures.some))

pub returns-in_err-rescue_one-clause-honestly : goal.returns-in_err-rescue_one-clause-honestly
returns-in_err-rescue_one-clause-honestly g c =
    let p = err_from_is_err_and c.from_residual-in_err-rescue_one.result c.from_residual-in_err-rescue_one.ensures.1 in
    rw p.1 (λ honest w. tt)

pub returns-in_err-rescue_one-clause-memory : goal.returns-in_err-rescue_one-clause-memory
returns-in_err-rescue_one-clause-memory g c =
    let p = err_from_is_err_and c.from_residual-in_err-rescue_one.result c.from_residual-in_err-rescue_one.ensures.1 in
    no_memory _ _ (p.1 ∙ ap Err p.2)

-- ---- a page was rescued

pub returns-then-needs_rescue-clause-kept : goal.returns-then-needs_rescue-clause-kept
returns-then-needs_rescue-clause-kept g c =
    let room = passes_room g.N.PageSource.view c.args.engine.now c.make_room.new.engine c.in_ok-make_room.ensures.leaves c.make_room.ensures.keys.limits c.in_ok-make_room.ensures.truth c.in_ok-make_room.ensures.pinned in
    kept_rescue g.N.PageSource.view c.args.engine.now c.make_room.new.engine room c.rescue_one.new.self c.rescue_one.ensures.goes c.rescue_one.ensures.keys _
    c.in_ok-rescue_one.ensures.stands c.in_ok-rescue_one.ensures.cost c.in_ok-rescue_one.ensures.stops c.in_ok-rescue_one.ensures.beside c.in_ok-make_room.ensures.made.calm
    (λ honest none true_of few. (c.in_ok-rescue_one.ensures.truth honest none true_of few).same)

pub returns-then-needs_rescue-clause-turned : goal.returns-then-needs_rescue-clause-turned
returns-then-needs_rescue-clause-turned g c = record {
  mid = ram c.make_room.new.engine;
  room = c.in_ok-make_room.ensures.made;
  on = rescue_turned (ram c.make_room.new.engine) (ram c.rescue_one.new.self) _ c.if-needs_rescue.ensures.some (c.in_ok-rescue_one.ensures.cost c.in_ok-make_room.ensures.leaves.fault);
}

pub returns-then-needs_rescue-clause-count : goal.returns-then-needs_rescue-clause-count
returns-then-needs_rescue-clause-count g c = λ known five. rescue_short (ram c.args.engine.now) (ram c.make_room.new.engine)
    (ram c.rescue_one.new.self) c.requires.safe.memory c.make_room.ensures.leaves.safe.memory c.rescue_one.ensures.stands.safe.memory
    c.in_ok-make_room.ensures.made c.rescue_one.ensures.goes (c.in_ok-make_room.ensures.count known.0 known.1 0 known.2) _
    (c.in_ok-rescue_one.ensures.cost c.in_ok-make_room.ensures.leaves.fault)

pub returns-then-needs_rescue-clause-rests : goal.returns-then-needs_rescue-clause-rests
returns-then-needs_rescue-clause-rests g c = λ none unpinned twelve. absurd (no_rescue c.args.engine.now c.make_room.new.engine (c.in_ok-make_room.ensures.rests (call_of_turn (ram c.args.engine.now) twelve)).1 none (c.if-needs_rescue.ensures.some))

pub returns-then-needs_rescue-clause-honestly : goal.returns-then-needs_rescue-clause-honestly
returns-then-needs_rescue-clause-honestly g c = λ honest w.
    let room = c.in_ok-make_room.ensures.truth honest w in
    let made = made_room g.N.PageSource.view c.args.engine.now c.make_room.new.engine c.in_ok-make_room.ensures.made (λ nine. (c.make_room.ensures.rests nine).1) room (c.in_ok-make_room.ensures.leaves.went honest (ok_not_bus _)) in
    let one = c.in_ok-rescue_one.ensures.truth (c.make_room.ensures.leaves.die.honest_is ∙ honest) c.in_ok-make_room.ensures.leaves.fault room.truth (moved_less (ram c.make_room.new.engine) _ (c.in_ok-make_room.ensures.pinned honest w)) in
    let cost = c.in_ok-rescue_one.ensures.cost c.in_ok-make_room.ensures.leaves.fault in
    record {
      quiet = rescue_works g.N.PageSource.view.erases c.args.engine.now c.make_room.new.engine c.rescue_one.new.self _ _ _ c.make_room.ensures.leaves.safe.memory
          c.rescue_one.ensures.stands.safe.memory c.if-needs_rescue.ensures.some c.in_ok-make_room.ensures.erases c.rescue_one.ensures.erases c.rescue_one.ensures.goes cost one;
      falls = λ none. rescue_falls g.N.PageSource.view c.args.engine.now c.make_room.new.engine c.rescue_one.new.self c.in_ok-make_room.ensures.erases c.rescue_one.ensures.erases c.if-needs_rescue.ensures.some none;
      rescued = rescued_by (ram c.args.engine.now) (ram c.make_room.new.engine) (ram c.rescue_one.new.self) _ _ _ _ c.requires.safe.memory c.make_room.ensures.leaves.safe.memory c.rescue_one.ensures.stands.safe.memory
          c.in_ok-make_room.ensures.made.goes c.rescue_one.ensures.goes room one;
      lowest = lowest_by g.N.PageSource.view c.args.engine.now c.make_room.new.engine c.rescue_one.new.self c.in_ok-rescue_one.field-0 made cost one;
      worked = λ some. rescue_worked g.N.PageSource.view.erases c.args.engine.now c.make_room.new.engine c.rescue_one.new.self _ _ _ c.make_room.ensures.leaves.safe.memory
          c.rescue_one.ensures.stands.safe.memory some c.in_ok-make_room.ensures.erases c.rescue_one.ensures.erases c.rescue_one.ensures.goes cost one;
    }

pub returns-then-needs_rescue-clause-memory : goal.returns-then-needs_rescue-clause-memory
returns-then-needs_rescue-clause-memory g c = λ bad. no_err _ _ _ refl bad

-- ---- a step was refused

pub returns-in_err-collect_on-clause-kept : goal.returns-in_err-collect_on-clause-kept
returns-in_err-collect_on-clause-kept g c =
    let p = err_from_is_err_and c.from_residual-in_err-collect_on.result c.from_residual-in_err-collect_on.ensures.1 in
    let room = passes_room g.N.PageSource.view c.args.engine.now c.make_room.new.engine c.in_ok-make_room.ensures.leaves c.make_room.ensures.keys.limits c.in_ok-make_room.ensures.truth c.in_ok-make_room.ensures.pinned in
    let on = c.in_err-collect_on.ensures.collects in
    rw (p.1, p.2) (stuck_then g.N.PageSource.view c.args.engine.now c.make_room.new.engine c.collect_on.new.engine room _ on.leaves on.limits on.truth)

pub returns-in_err-collect_on-clause-turned : goal.returns-in_err-collect_on-clause-turned
returns-in_err-collect_on-clause-turned g c =
    let p = err_from_is_err_and c.from_residual-in_err-collect_on.result c.from_residual-in_err-collect_on.ensures.1 in
    rw p.1 tt

pub returns-in_err-collect_on-clause-count : goal.returns-in_err-collect_on-clause-count
returns-in_err-collect_on-clause-count g c =
    let p = err_from_is_err_and c.from_residual-in_err-collect_on.result c.from_residual-in_err-collect_on.ensures.1 in
    rw (p.1, p.2)
    (λ known five. step_short_of (ram c.args.engine.now) (ram c.make_room.new.engine) (ram c.collect_on.new.engine) c.requires.safe.memory
    c.make_room.ensures.leaves.safe.memory c.collect_on.ensures.collects.leaves.safe.memory c.in_ok-make_room.ensures.made
    c.collect_on.ensures.collects.goes (c.in_ok-make_room.ensures.count known.0 known.1 0 known.2) _
    c.in_err-collect_on.ensures.collects.counts)

pub returns-in_err-collect_on-clause-rests : goal.returns-in_err-collect_on-clause-rests
returns-in_err-collect_on-clause-rests g c = λ none unpinned twelve.
    let at = resting c.args.engine.now c.make_room.new.engine (c.in_ok-make_room.ensures.rests (call_of_turn (ram c.args.engine.now) twelve)).1 unpinned twelve in
    absurd (no_true (c.in_err-collect_on.ensures.rests at.0 at.1).0)

pub returns-in_err-collect_on-clause-honestly : goal.returns-in_err-collect_on-clause-honestly
returns-in_err-collect_on-clause-honestly g c =
    let p = err_from_is_err_and c.from_residual-in_err-collect_on.result c.from_residual-in_err-collect_on.ensures.1 in
    rw p.1 (λ honest w. tt)

pub returns-in_err-collect_on-clause-memory : goal.returns-in_err-collect_on-clause-memory
returns-in_err-collect_on-clause-memory g c =
    let p = err_from_is_err_and c.from_residual-in_err-collect_on.result c.from_residual-in_err-collect_on.ensures.1 in
    no_memory _ _ (p.1 ∙ ap Err p.2)

-- ---- a collection went on

pub returns-clause-kept : goal.returns-clause-kept
returns-clause-kept g c =
    let room = passes_room g.N.PageSource.view c.args.engine.now c.make_room.new.engine c.in_ok-make_room.ensures.leaves c.make_room.ensures.keys.limits c.in_ok-make_room.ensures.truth c.in_ok-make_room.ensures.pinned in
    let on = c.in_ok-collect_on.ensures.collects in
    kept_then g.N.PageSource.view c.args.engine.now c.make_room.new.engine c.collect_on.new.engine room tt on.leaves on.limits on.calm_memory on.truth

pub returns-clause-turned : goal.returns-clause-turned
returns-clause-turned g c = record {
  mid = ram c.make_room.new.engine;
  room = c.in_ok-make_room.ensures.made;
  on = collect_turned (ram c.make_room.new.engine) (ram c.collect_on.new.engine) c.if-needs_rescue.ensures.none c.in_ok-collect_on.ensures.gone_on;
}

pub returns-clause-count : goal.returns-clause-count
returns-clause-count g c = λ known five. step_short (ram c.args.engine.now) (ram c.make_room.new.engine) (ram c.collect_on.new.engine)
    c.requires.safe.memory c.make_room.ensures.leaves.safe.memory c.collect_on.ensures.collects.leaves.safe.memory c.in_ok-make_room.ensures.made
    c.collect_on.ensures.collects.goes (c.in_ok-make_room.ensures.count known.0 known.1 0 known.2) c.in_ok-collect_on.ensures.collects.counts

pub returns-clause-rests : goal.returns-clause-rests
returns-clause-rests g c = λ none unpinned twelve.
    let still = (c.in_ok-make_room.ensures.rests (call_of_turn (ram c.args.engine.now) twelve)).1 in
    let at = resting c.args.engine.now c.make_room.new.engine still unpinned twelve in
    (refl, (c.in_ok-collect_on.ensures.rests at.0 at.1).1 ∙ still)

pub returns-clause-honestly : goal.returns-clause-honestly
returns-clause-honestly g c = λ honest w.
    let room = c.in_ok-make_room.ensures.truth honest w in
    let knows = c.in_ok-make_room.ensures.pinned honest w in
    let still = c.make_room.ensures.leaves.die.honest_is ∙ honest in
    let made = made_room g.N.PageSource.view c.args.engine.now c.make_room.new.engine c.in_ok-make_room.ensures.made (λ nine. (c.make_room.ensures.rests nine).1) room (c.in_ok-make_room.ensures.leaves.went honest (ok_not_bus _)) in
    let on = c.in_ok-collect_on.ensures.collects in
    record {
      quiet = quiet_then g.N.PageSource.view.erases c.args.engine.now c.make_room.new.engine c.collect_on.new.engine c.in_ok-make_room.ensures.erases on.risen (c.in_ok-collect_on.ensures.quiet still knows);
      falls = λ none. fallen_then g.N.PageSource.view c.args.engine.now c.make_room.new.engine c.collect_on.new.engine c.in_ok-make_room.ensures.erases on.risen (c.in_ok-collect_on.ensures.falls still knows);
      rescued = collected_rescued (ram c.args.engine.now) (ram c.make_room.new.engine) (ram c.collect_on.new.engine) _ _ c.requires.safe.memory c.make_room.ensures.leaves.safe.memory
          c.collect_on.ensures.collects.leaves.safe.memory c.in_ok-make_room.ensures.made.goes c.collect_on.ensures.collects.goes room c.if-needs_rescue.ensures.none (on.bad still knows);
      lowest = lowest_none g.N.PageSource.view c.args.engine.now c.make_room.new.engine c.collect_on.new.engine made c.if-needs_rescue.ensures.none;
      worked = λ some. none_worked g.N.PageSource.view.erases c.args.engine.now c.make_room.new.engine c.collect_on.new.engine c.in_ok-make_room.ensures.erases on.risen c.if-needs_rescue.ensures.none some;
    }

pub returns-clause-memory : goal.returns-clause-memory
returns-clause-memory g c = λ bad. no_err _ _ _ refl bad

-- ---- what the calls want

pub make_room-requires : goal.make_room-requires
make_room-requires g c = record { safe = c.requires.safe; flushes = λ e. absurd (no_true e); going = c.requires.going; calm = c.requires.calm }

pub collect_on-requires : goal.collect_on-requires
collect_on-requires g c = record { safe = c.make_room.ensures.leaves.safe; going = c.in_ok-make_room.ensures.leaves.fault; calm = c.in_ok-make_room.ensures.made.calm }

pub needs_rescue-requires : goal.needs_rescue-requires
needs_rescue-requires g c = record { safe = c.make_room.ensures.leaves.safe }

pub rescue_one-requires : goal.rescue_one-requires
rescue_one-requires g c = record { safe = c.make_room.ensures.leaves.safe }
