use Rattle.std.proofs.Common.{◌<◌, ◌∙◌, Err, ap, sym, subst}
use Rattle.page_layout.specs.declared.geometry.Geometry.{Geometry}
use Rattle.page_layout.specs.Geometry.{translation_pages}
use Rattle.std.proofs.lemmas.Result.{err_from_is_err_and}
use Rattle.collection.specs.Safe.{ram}
use Rattle.collection.proofs.Lefts.{calm_law}
use Rattle.ftl_device.proofs.PinLemmas.{beside_back}
use Rattle.ftl_device.proofs.RoomLemmas.{ok_any}
use Rattle.ftl_device.proofs.FlushRooms.{adds_none, spends_then, spends_most, spends_back}
use Rattle.ftl_device.proofs.FlushLoops.{keeps_cleaned, back_after, limits_then}
use Rattle.ftl_device.proofs.AnswerLemmas.{from_0, cleaned_by, flushes_none}
use Rattle.ftl_device.proofs.SpentLemmas.{funded_here, written_counts, unroomed_counts}
use Rattle.ftl_device.proofs.FlushStepLemmas.{clean_by, lacks_by, page_clean, written_back, page_flushed}
use Rattle.ftl_device.proofs.LeaveLemmas.{leaves_by, leaves_then, back_told}
use Rattle.ftl_device.proofs.flush.flush_translation.Goals as goal

pub returns-then-not-lacks-clause-flushes : goal.returns-then-not-lacks-clause-flushes
returns-then-not-lacks-clause-flushes g c = flushes_none g.N.PageSource.view c.args.engine.now c.requires.safe c.requires.going c.requires.calm

pub returns-in_err-make_flush_room-clause-flushes : goal.returns-in_err-make_flush_room-clause-flushes
returns-in_err-make_flush_room-clause-flushes g c =
    let p = err_from_is_err_and c.from_residual.result c.from_residual.ensures.1 in
    rw (p.1, p.2) c.in_err-make_flush_room.ensures.flushes

pub returns-clause-flushes : goal.returns-clause-flushes
returns-clause-flushes g c =
    let on = c.in_ok-make_flush_room.ensures.flushes in
    let beside = beside_back c.write_back.result (ram c.make_flush_room.new.engine) (ram c.write_back.new.self) _ c.write_back.ensures.pin c.write_back.ensures.goes c.write_back.ensures.cleaned c.write_back.ensures.mapping in
    record {
      leaves = leaves_then g.N.PageSource.view c.args.engine.now c.make_flush_room.new.engine c.write_back.new.self _ c.write_back.result (λ honest k. on.truth honest k) on.keys.limits on.leaves
          (leaves_by g.N.PageSource.view c.make_flush_room.new.engine
          c.write_back.new.self c.write_back.result on.leaves.fault c.write_back.ensures.stands c.write_back.ensures.goes.geometry
          (back_told c.write_back.result (ram c.make_flush_room.new.engine) (ram c.write_back.new.self) (c.write_back.ensures.cost on.leaves.fault))
          (λ honest k ne. c.write_back.ensures.stops honest on.leaves.fault k.truth ne)
          (λ honest k bus. c.write_back.ensures.cut honest on.leaves.fault k.truth bus));
      keys = record { limits = limits_then _ _ _ on.keys.limits c.write_back.ensures.no_more.limits; keys = c.write_back.ensures.keys ∙ on.keys.keys };
      calm = ok_any c.write_back.result (calm_law (ram c.make_flush_room.new.engine) (ram c.write_back.new.self) beside on.calm);
      pins = ok_any c.write_back.result (λ none. ap (λ p. p.block) c.write_back.ensures.pin ∙ on.pins none);
      truth = λ honest w.
          let room = on.truth honest w in
          back_after c.write_back.result _ c.args.engine.now.geometry (ram c.make_flush_room.new.engine) (ram c.write_back.new.self) _ _ _ on.leaves.geometry on.leaves.safe.memory c.write_back.ensures.stands.safe.memory
          beside room (c.write_back.ensures.truth (on.leaves.die.honest_is ∙ honest) on.leaves.fault room.truth.truth);
    }

pub returns-clause-cleans : goal.returns-clause-cleans
returns-clause-cleans g c = keeps_cleaned c.write_back.result c.args.engine.now.geometry c.args.engine.now.mapping c.make_flush_room.new.engine.mapping c.write_back.new.self.mapping c.args.t c.in_ok-make_flush_room.ensures.cleans c.write_back.ensures.cleans

pub returns-then-not-lacks-clause-count : goal.returns-then-not-lacks-clause-count
returns-then-not-lacks-clause-count g c = λ none honest w failures funded. funded_here failures (ram c.args.engine.now) funded

pub returns-in_err-make_flush_room-clause-count : goal.returns-in_err-make_flush_room-clause-count
returns-in_err-make_flush_room-clause-count g c =
    let p = err_from_is_err_and c.from_residual.result c.from_residual.ensures.1 in
    rw (p.1, p.2) (λ none honest w failures funded. unroomed_counts failures _ (ram c.args.engine.now) (ram c.make_flush_room.new.engine) (c.in_err-make_flush_room.ensures.count none honest w failures funded))

pub returns-clause-count : goal.returns-clause-count
returns-clause-count g c = λ none honest w failures funded. written_counts failures c.write_back.result (ram c.args.engine.now)
    (ram c.make_flush_room.new.engine) (ram c.write_back.new.self) c.make_flush_room.ensures.flushes.leaves.safe.memory c.make_flush_room.ensures.flushes.leaves.geometry
    (c.in_ok-make_flush_room.ensures.count none honest w failures funded) (c.write_back.ensures.cost c.in_ok-make_flush_room.ensures.flushes.leaves.fault)

pub returns-then-not-lacks-clause-spends : goal.returns-then-not-lacks-clause-spends
returns-then-not-lacks-clause-spends g c = λ some. adds_none 1 (ram c.args.engine.now)

pub returns-in_err-make_flush_room-clause-spends : goal.returns-in_err-make_flush_room-clause-spends
returns-in_err-make_flush_room-clause-spends g c =
    let p = err_from_is_err_and c.from_residual.result c.from_residual.ensures.1 in
    rw (p.1, p.2) (λ some. spends_most 0 1 (Err _) (ram c.args.engine.now) (ram c.make_flush_room.new.engine) (from_0 1) (c.in_err-make_flush_room.ensures.spends some))

pub returns-clause-spends : goal.returns-clause-spends
returns-clause-spends g c = λ some. spends_then 0 1 c.write_back.result (ram c.args.engine.now) (ram c.make_flush_room.new.engine) (ram c.write_back.new.self) c.make_flush_room.ensures.flushes.leaves.geometry
    (c.in_ok-make_flush_room.ensures.spends some) (spends_back c.write_back.result (ram c.make_flush_room.new.engine) (ram c.write_back.new.self) (c.write_back.ensures.cost c.in_ok-make_flush_room.ensures.flushes.leaves.fault))

pub returns-then-not-lacks-clause-page : goal.returns-then-not-lacks-clause-page
returns-then-not-lacks-clause-page g c = page_clean g.N.PageSource.view c.args.t c.args.engine.now
    (clean_by c.args.engine.now.geometry c.args.t c.args.engine.now.mapping c.requires.safe.memory.mapping_of
    (c.lacks.ensures.none c.if-not-lacks.true))

pub returns-clause-page : goal.returns-clause-page
returns-clause-page g c =
    let back = written_back g.N.PageSource.view c.args.t
    c.make_flush_room.new.engine c.write_back.new.self c.write_back.result c.make_flush_room.ensures.flushes.leaves.safe.memory
    c.write_back.ensures.stands.safe.memory
    (beside_back c.write_back.result (ram c.make_flush_room.new.engine) (ram c.write_back.new.self) _ c.write_back.ensures.pin c.write_back.ensures.goes
    c.write_back.ensures.cleaned c.write_back.ensures.mapping) c.write_back.ensures.goes c.write_back.ensures.stands
    c.write_back.ensures.cleaned c.write_back.ensures.programmed
    (c.write_back.ensures.cost c.in_ok-make_flush_room.ensures.flushes.leaves.fault) (λ honest true_of. c.write_back.ensures.truth honest c.in_ok-make_flush_room.ensures.flushes.leaves.fault true_of) in
    page_flushed g.N.PageSource.view c.args.t c.args.engine.now c.make_flush_room.new.engine c.write_back.new.self c.write_back.result
    (lacks_by c.args.engine.now.geometry c.args.t c.args.engine.now.mapping c.requires.safe.memory.mapping_of (c.lacks.ensures.some c.if-not-lacks.false)) c.in_ok-make_flush_room.ensures.cleared back

-- ---- it lacks no row

pub returns-then-not-lacks-clause-clean : goal.returns-then-not-lacks-clause-clean
returns-then-not-lacks-clause-clean g c = clean_by c.args.engine.now.geometry c.args.t c.args.engine.now.mapping c.requires.safe.memory.mapping_of (c.lacks.ensures.none c.if-not-lacks.true)

pub returns-then-not-lacks-clause-cleans : goal.returns-then-not-lacks-clause-cleans
returns-then-not-lacks-clause-cleans g c = record { still = λ t within was. was }

-- ---- there was no room

pub returns-in_err-make_flush_room-clause-clean : goal.returns-in_err-make_flush_room-clause-clean
returns-in_err-make_flush_room-clause-clean g c =
    let p = err_from_is_err_and c.from_residual.result c.from_residual.ensures.1 in
    rw p.1 tt

pub returns-in_err-make_flush_room-clause-cleans : goal.returns-in_err-make_flush_room-clause-cleans
returns-in_err-make_flush_room-clause-cleans g c =
    let p = err_from_is_err_and c.from_residual.result c.from_residual.ensures.1 in
    rw p.1 tt

pub returns-in_err-make_flush_room-clause-page : goal.returns-in_err-make_flush_room-clause-page
returns-in_err-make_flush_room-clause-page g c =
    let p = err_from_is_err_and c.from_residual.result c.from_residual.ensures.1 in
    rw p.1 tt

-- ---- it was written back

pub returns-clause-clean : goal.returns-clause-clean
returns-clause-clean g c = cleaned_by c.write_back.result c.args.engine.now.geometry c.args.t c.make_flush_room.new.engine.mapping c.write_back.new.self.mapping
    (c.make_flush_room.ensures.flushes.leaves.safe.memory.mapping_of ∙ c.make_flush_room.ensures.flushes.leaves.geometry) c.write_back.ensures.cleans

pub write_back-requires-clause-safe : goal.write_back-requires-clause-safe
write_back-requires-clause-safe g c = c.make_flush_room.ensures.flushes.leaves.safe

pub write_back-requires-clause-page : goal.write_back-requires-clause-page
write_back-requires-clause-page g c = subst (λ (geometry : Geometry). c.args.t < translation_pages geometry) (sym c.make_flush_room.ensures.flushes.leaves.geometry) c.requires.page

-- ---- what the calls want

pub make_flush_room-requires : goal.make_flush_room-requires
make_flush_room-requires g c = record { safe = c.requires.safe; going = c.requires.going; calm = c.requires.calm }
