use Rattle.std.proofs.Common.{◌∙◌, ◌<◌, Err, refl, ap, sym, subst}
use Rattle.page_layout.specs.declared.geometry.Geometry.{Geometry}
use Rattle.page_layout.specs.Geometry.{row_count}
use Rattle.std.proofs.lemmas.Result.{err_from_is_err_and}
use Rattle.collection.specs.Safe.{ram}
use Rattle.collection.proofs.Looks.{ok_not_bus}
use Rattle.ftl_device.proofs.RescueLemmas.{kept_unroomed, passes_room, kept_rescue_refused, kept_rescue}
use Rattle.ftl_device.proofs.SpentLemmas.{rescue_short, rescue_stuck, unroomed_short}
use Rattle.ftl_device.proofs.StepLemmas.{moved_less}
use Rattle.ftl_device.proofs.MigrateLemmas.{renews_by, renewed_same}
use Rattle.ftl_device.proofs.BringLemmas.{brought_by, brings_by, made_room}
use Rattle.ftl_device.proofs.AnswerLemmas.{no_true, no_err, no_memory}
use Rattle.ftl_device.proofs.migrate.renew_ready.Goals as goal

-- ---- no room was made

pub returns-in_err-make_room-clause-kept : goal.returns-in_err-make_room-clause-kept
returns-in_err-make_room-clause-kept g c =
    let p = err_from_is_err_and c.from_residual.result c.from_residual.ensures.1 in
    rw (p.1, p.2)
    (kept_unroomed g.N.PageSource.view c.args.engine.now c.make_room.new.engine _ c.in_err-make_room.ensures.leaves c.make_room.ensures.keys.limits c.in_err-make_room.ensures.truth c.in_err-make_room.ensures.pinned)

pub returns-in_err-make_room-clause-brought : goal.returns-in_err-make_room-clause-brought
returns-in_err-make_room-clause-brought g c =
    let p = err_from_is_err_and c.from_residual.result c.from_residual.ensures.1 in
    rw p.1 tt

pub returns-in_err-make_room-clause-count : goal.returns-in_err-make_room-clause-count
returns-in_err-make_room-clause-count g c =
    let p = err_from_is_err_and c.from_residual.result c.from_residual.ensures.1 in
    rw (p.1, p.2) (λ known five. unroomed_short _ (ram c.args.engine.now) (ram c.make_room.new.engine) (c.in_err-make_room.ensures.count known.0 known.1 0 known.2))

pub returns-in_err-make_room-clause-renews : goal.returns-in_err-make_room-clause-renews
returns-in_err-make_room-clause-renews g c =
    let p = err_from_is_err_and c.from_residual.result c.from_residual.ensures.1 in
    rw p.1 (λ honest w. tt)

pub returns-in_err-make_room-clause-memory : goal.returns-in_err-make_room-clause-memory
returns-in_err-make_room-clause-memory g c =
    let p = err_from_is_err_and c.from_residual.result c.from_residual.ensures.1 in
    no_memory _ _ (p.1 ∙ ap Err p.2)

pub returns-in_err-make_room-clause-brings : goal.returns-in_err-make_room-clause-brings
returns-in_err-make_room-clause-brings g c =
    let p = err_from_is_err_and c.from_residual.result c.from_residual.ensures.1 in
    rw p.1 (λ honest w. tt)

-- ---- it was not renewed

pub returns-in_err-renew_at-clause-kept : goal.returns-in_err-renew_at-clause-kept
returns-in_err-renew_at-clause-kept g c =
    let p = err_from_is_err_and c.from_residual-in_err-renew_at.result c.from_residual-in_err-renew_at.ensures.1 in
    let room = passes_room g.N.PageSource.view c.args.engine.now c.make_room.new.engine c.in_ok-make_room.ensures.leaves c.make_room.ensures.keys.limits c.in_ok-make_room.ensures.truth c.in_ok-make_room.ensures.pinned in
    rw (p.1, p.2)
    (kept_rescue_refused g.N.PageSource.view c.args.engine.now c.make_room.new.engine room c.renew_at.new.self c.renew_at.ensures.goes c.renew_at.ensures.keys _
    c.in_err-renew_at.ensures.stands c.in_err-renew_at.ensures.cost c.in_err-renew_at.ensures.stops c.in_err-renew_at.ensures.cut c.renew_at.ensures.pin c.renew_at.ensures.one_more
    c.in_err-renew_at.ensures.truth)

pub returns-in_err-renew_at-clause-brought : goal.returns-in_err-renew_at-clause-brought
returns-in_err-renew_at-clause-brought g c =
    let p = err_from_is_err_and c.from_residual-in_err-renew_at.result c.from_residual-in_err-renew_at.ensures.1 in
    rw p.1 tt

pub returns-in_err-renew_at-clause-count : goal.returns-in_err-renew_at-clause-count
returns-in_err-renew_at-clause-count g c =
    let p = err_from_is_err_and c.from_residual-in_err-renew_at.result c.from_residual-in_err-renew_at.ensures.1 in
    rw (p.1, p.2)
    (λ known five. rescue_stuck (ram c.args.engine.now) (ram c.make_room.new.engine) (ram c.renew_at.new.self) c.requires.safe.memory
    c.make_room.ensures.leaves.safe.memory c.renew_at.ensures.stands.safe.memory c.in_ok-make_room.ensures.made c.renew_at.ensures.goes
    (c.in_ok-make_room.ensures.count known.0 known.1 0 known.2) _ (c.in_err-renew_at.ensures.cost c.in_ok-make_room.ensures.leaves.fault))

pub returns-in_err-renew_at-clause-renews : goal.returns-in_err-renew_at-clause-renews
returns-in_err-renew_at-clause-renews g c =
    let p = err_from_is_err_and c.from_residual-in_err-renew_at.result c.from_residual-in_err-renew_at.ensures.1 in
    rw p.1 (λ honest w. tt)

pub returns-in_err-renew_at-clause-memory : goal.returns-in_err-renew_at-clause-memory
returns-in_err-renew_at-clause-memory g c =
    let p = err_from_is_err_and c.from_residual-in_err-renew_at.result c.from_residual-in_err-renew_at.ensures.1 in
    no_memory _ _ (p.1 ∙ ap Err p.2)

pub returns-in_err-renew_at-clause-brings : goal.returns-in_err-renew_at-clause-brings
returns-in_err-renew_at-clause-brings g c =
    let p = err_from_is_err_and c.from_residual-in_err-renew_at.result c.from_residual-in_err-renew_at.ensures.1 in
    rw p.1 (λ honest w. tt)

-- ---- it was done

pub returns-clause-kept : goal.returns-clause-kept
returns-clause-kept g c =
    let room = passes_room g.N.PageSource.view c.args.engine.now c.make_room.new.engine c.in_ok-make_room.ensures.leaves c.make_room.ensures.keys.limits c.in_ok-make_room.ensures.truth c.in_ok-make_room.ensures.pinned in
    kept_rescue g.N.PageSource.view c.args.engine.now c.make_room.new.engine room c.renew_at.new.self c.renew_at.ensures.goes c.renew_at.ensures.keys _
    c.in_ok-renew_at.ensures.stands c.in_ok-renew_at.ensures.cost c.in_ok-renew_at.ensures.stops c.in_ok-renew_at.ensures.beside c.in_ok-make_room.ensures.made.calm
    (λ honest none true_of few. renewed_same c.args.row (ram c.make_room.new.engine) (ram c.renew_at.new.self) _ _ c.in_ok-renew_at.field-0 (c.in_ok-renew_at.ensures.truth honest none true_of few))

pub returns-clause-count : goal.returns-clause-count
returns-clause-count g c = λ known five. rescue_short (ram c.args.engine.now) (ram c.make_room.new.engine) (ram c.renew_at.new.self)
    c.requires.safe.memory c.make_room.ensures.leaves.safe.memory c.renew_at.ensures.stands.safe.memory c.in_ok-make_room.ensures.made
    c.renew_at.ensures.goes (c.in_ok-make_room.ensures.count known.0 known.1 0 known.2) _
    (c.in_ok-renew_at.ensures.cost c.in_ok-make_room.ensures.leaves.fault)

pub returns-clause-renews : goal.returns-clause-renews
returns-clause-renews g c = λ honest w.
    let room = c.in_ok-make_room.ensures.truth honest w in
    let one = c.in_ok-renew_at.ensures.truth (c.make_room.ensures.leaves.die.honest_is ∙ honest) c.in_ok-make_room.ensures.leaves.fault room.truth (moved_less (ram c.make_room.new.engine) _ (c.in_ok-make_room.ensures.pinned honest w)) in
    renews_by (ram c.args.engine.now) (ram c.make_room.new.engine) (ram c.renew_at.new.self) _ _ _ c.args.row c.in_ok-renew_at.field-0 c.make_room.ensures.leaves.geometry room one

pub returns-clause-brought : goal.returns-clause-brought
returns-clause-brought g c = brought_by (ram c.args.engine.now) (ram c.make_room.new.engine) (ram c.renew_at.new.self) c.in_ok-renew_at.field-0 c.in_ok-make_room.ensures.made (c.in_ok-renew_at.ensures.cost c.in_ok-make_room.ensures.leaves.fault)

pub returns-clause-brings : goal.returns-clause-brings
returns-clause-brings g c = λ honest w.
    let room = c.in_ok-make_room.ensures.truth honest w in
    let one = c.in_ok-renew_at.ensures.truth (c.make_room.ensures.leaves.die.honest_is ∙ honest) c.in_ok-make_room.ensures.leaves.fault room.truth (moved_less (ram c.make_room.new.engine) _ (c.in_ok-make_room.ensures.pinned honest w)) in
    let made = made_room g.N.PageSource.view c.args.engine.now c.make_room.new.engine c.in_ok-make_room.ensures.made (λ nine. (c.make_room.ensures.rests nine).1) room (c.in_ok-make_room.ensures.leaves.went honest (ok_not_bus _)) in
    brings_by g.N.PageSource.view c.args.row c.args.engine.now c.make_room.new.engine c.renew_at.new.self
    c.in_ok-renew_at.field-0 made c.renew_at.ensures.goes c.renew_at.ensures.keys
    (c.in_ok-renew_at.ensures.cost c.in_ok-make_room.ensures.leaves.fault) one

pub returns-clause-memory : goal.returns-clause-memory
returns-clause-memory g c = λ bad. no_err _ _ _ refl bad

-- ---- what the calls want

pub make_room-requires : goal.make_room-requires
make_room-requires g c = record { safe = c.requires.safe; flushes = λ e. absurd (no_true e); going = c.requires.going; calm = c.requires.calm }

pub renew_at-requires : goal.renew_at-requires
renew_at-requires g c = record {
  safe = c.make_room.ensures.leaves.safe;
  row = subst (λ (geometry : Geometry). c.args.row < row_count geometry) (sym c.make_room.ensures.leaves.geometry) c.requires.row;
}
