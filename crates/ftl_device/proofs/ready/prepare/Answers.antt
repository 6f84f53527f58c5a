use Rattle.std.proofs.Common.{◌∙◌, ◌<◌, ap, sym, subst}
use Rattle.std.specs.Prelude.{IfOk}
use Rattle.std.specs.Option.{ForSome}
use Rattle.std.specs.Map.{keys_of}
use Rattle.page_layout.specs.declared.geometry.Geometry.{Geometry}
use Rattle.page_layout.specs.Geometry.{row_count}
use Rattle.collection.specs.State.{Ram}
use Rattle.collection.proofs.Looks.{ok_not_bus}
use Rattle.std.proofs.lemmas.Result.{err_from_is_err_and}
use Rattle.collection.specs.Safe.{ram, image_in}
use Rattle.collection.proofs.Costs.{risen_over}
use Rattle.ftl_device.proofs.RoomLemmas.{keeps_room, refused_room, room_pins, ok_any}
use Rattle.ftl_device.proofs.FlushLoops.{limits_then, engine_keeps, engine_refused}
use Rattle.ftl_device.proofs.ReadyLemmas.{place_stays}
use Rattle.ftl_device.proofs.CostLemmas.{ready_found}
use Rattle.ftl_device.proofs.PrepareLemmas.{tells_found, went_found, found_after, calm_after}
use Rattle.ftl_device.proofs.ReadLemmas.{finds_noted, prepared_by}
use Rattle.ftl_device.specs.Shortage.{HasFunds}
use Rattle.ftl_device.proofs.SpentLemmas.{after_room, room_refused, place_refused, found_costs}
use Rattle.ftl_device.proofs.DieLemmas.{die_then}
use Rattle.ftl_device.proofs.LeaveLemmas.{leaves_then, leaves_refused, limits_same}
use Rattle.ftl_device.proofs.AnswerLemmas.{no_true}
use Rattle.ftl_device.proofs.StoppedLemmas.{cuts_looked, cuts_on, stops_still}
use Rattle.ftl_device.proofs.ready.prepare.Goals as goal

pub returns-clause-place : goal.returns-clause-place
returns-clause-place g c = place_stays c.find_row.result (ram c.make_place.new.engine) (ram c.find_row.new.engine) c.args.sector _ c.find_row.ensures.memory c.in_ok-make_place.ensures.place

pub returns-clause-cost : goal.returns-clause-cost
returns-clause-cost g c = ready_found c.find_row.result c.args.sector (ram c.args.engine.now) (ram c.make_room.new.engine) (ram c.make_place.new.engine) (ram c.find_row.new.engine) _ c.in_ok-make_room.ensures.made c.find_row.ensures.memory c.in_ok-make_place.ensures.cost

pub returns-clause-calm : goal.returns-clause-calm
returns-clause-calm g c = calm_after (ram c.make_place.new.engine) (ram c.find_row.new.engine) _ c.find_row.ensures.memory c.find_row.result (ram c.args.engine.now) (ram c.make_room.new.engine) c.in_ok-make_room.ensures.made c.make_place.ensures.beside

pub returns-clause-truth : goal.returns-clause-truth
returns-clause-truth g c = λ honest w.
    let room = c.in_ok-make_room.ensures.truth honest w in
    let knows = c.in_ok-make_room.ensures.pinned honest w in
    let place = c.in_ok-make_place.ensures.truth (c.make_room.ensures.leaves.die.honest_is ∙ honest) room.truth in
    let keeps = engine_keeps c.args.engine.now.geometry (ram c.make_room.new.engine) (ram c.make_place.new.engine)
    (image_in g.N.PageSource.view.flash c.args.engine.now) _ _ c.make_room.ensures.leaves.geometry c.make_room.ensures.leaves.safe.memory
    c.make_place.ensures.leaves.safe.memory c.make_place.ensures.beside
    (keeps_room (ram c.args.engine.now) (ram c.make_room.new.engine) _ _ room knows) place in
    let still = c.make_place.ensures.leaves.die.honest_is ∙ (c.make_room.ensures.leaves.die.honest_is ∙ honest) in
    found_after (ram c.make_place.new.engine) (ram c.find_row.new.engine) _ c.find_row.ensures.memory c.find_row.result c.args.sector c.args.engine.now.geometry _ (g.N.PageSource.view.flash c.make_place.new.engine.nand) (g.N.PageSource.view.flash c.find_row.new.engine.nand)
    keeps (c.find_row.ensures.same still) (c.find_row.ensures.truth still place.truth)

pub returns-in_err-make_place-clause-truth : goal.returns-in_err-make_place-clause-truth
returns-in_err-make_place-clause-truth g c =
    let p = err_from_is_err_and c.from_residual-in_err-make_place.result c.from_residual-in_err-make_place.ensures.1 in
    rw (p.1, p.2) (λ honest w.
    let room = c.in_ok-make_room.ensures.truth honest w in
    let knows = c.in_ok-make_room.ensures.pinned honest w in
    engine_refused c.args.engine.now.geometry (ram c.make_room.new.engine) (ram c.make_place.new.engine)
    (image_in g.N.PageSource.view.flash c.args.engine.now) _ _ _ c.make_room.ensures.leaves.geometry c.make_room.ensures.leaves.safe.memory
    c.make_place.ensures.leaves.safe.memory c.make_place.ensures.beside
    (keeps_room (ram c.args.engine.now) (ram c.make_room.new.engine) _ _ room knows)
    (c.in_err-make_place.ensures.truth (c.make_room.ensures.leaves.die.honest_is ∙ honest) room.truth))

pub returns-in_err-make_room-clause-truth : goal.returns-in_err-make_room-clause-truth
returns-in_err-make_room-clause-truth g c =
    let p = err_from_is_err_and c.from_residual.result c.from_residual.ensures.1 in
    rw (p.1, p.2) (λ honest w. refused_room (ram c.args.engine.now) (ram c.make_room.new.engine) _ _ _ (c.in_err-make_room.ensures.truth honest w) (c.in_err-make_room.ensures.pinned honest w))

pub returns-clause-checked : goal.returns-clause-checked
returns-clause-checked g c = finds_noted c.find_row.result (ram c.make_place.new.engine) (ram c.find_row.new.engine) c.args.sector _ _ c.find_row.ensures.memory c.find_row.ensures.checked

pub returns-clause-costs : goal.returns-clause-costs
returns-clause-costs g c = found_costs
    (HasFunds (g.N.PageSource.view.honest c.args.engine.now.nand) (ram c.args.engine.now) (image_in g.N.PageSource.view.flash c.args.engine.now))
    c.find_row.result (ram c.args.engine.now) (ram c.make_room.new.engine) (ram c.make_place.new.engine) (ram c.find_row.new.engine) _
    (after_room (HasFunds (g.N.PageSource.view.honest c.args.engine.now.nand) (ram c.args.engine.now) (image_in g.N.PageSource.view.flash c.args.engine.now))
    (ram c.args.engine.now) (ram c.make_room.new.engine) c.make_room.ensures.leaves.safe.memory c.in_ok-make_room.ensures.made
    (λ k. c.in_ok-make_room.ensures.count k.0 k.1 0 k.2)) c.in_ok-make_place.ensures.costs c.find_row.ensures.memory c.find_row.ensures.faults

pub returns-in_err-make_place-clause-costs : goal.returns-in_err-make_place-clause-costs
returns-in_err-make_place-clause-costs g c =
    let p = err_from_is_err_and c.from_residual-in_err-make_place.result c.from_residual-in_err-make_place.ensures.1 in
    rw (p.1, p.2) (place_refused (HasFunds (g.N.PageSource.view.honest c.args.engine.now.nand) (ram c.args.engine.now) (image_in g.N.PageSource.view.flash c.args.engine.now)) _ (ram c.args.engine.now) (ram c.make_room.new.engine) (ram c.make_place.new.engine)
    (after_room (HasFunds (g.N.PageSource.view.honest c.args.engine.now.nand) (ram c.args.engine.now) (image_in g.N.PageSource.view.flash c.args.engine.now))
    (ram c.args.engine.now) (ram c.make_room.new.engine) c.make_room.ensures.leaves.safe.memory c.in_ok-make_room.ensures.made
    (λ k. c.in_ok-make_room.ensures.count k.0 k.1 0 k.2)) c.in_err-make_place.ensures.costs)

pub returns-in_err-make_room-clause-costs : goal.returns-in_err-make_room-clause-costs
returns-in_err-make_room-clause-costs g c =
    let p = err_from_is_err_and c.from_residual.result c.from_residual.ensures.1 in
    rw (p.1, p.2)
    (room_refused
    (HasFunds (g.N.PageSource.view.honest c.args.engine.now.nand) (ram c.args.engine.now) (image_in g.N.PageSource.view.flash c.args.engine.now)) _
    (ram c.args.engine.now) (ram c.make_room.new.engine) c.in_err-make_room.ensures.leaves.tells
    (λ k. c.in_err-make_room.ensures.count k.0 k.1 0 k.2))

pub returns-in_err-make_room-clause-leaves : goal.returns-in_err-make_room-clause-leaves
returns-in_err-make_room-clause-leaves g c =
    let p = err_from_is_err_and c.from_residual.result c.from_residual.ensures.1 in
    rw (p.1, p.2) (leaves_refused g.N.PageSource.view _ _ c.args.engine.now c.make_room.new.engine _ c.in_err-make_room.ensures.leaves)

pub returns-in_err-make_place-clause-leaves : goal.returns-in_err-make_place-clause-leaves
returns-in_err-make_place-clause-leaves g c =
    let p = err_from_is_err_and c.from_residual-in_err-make_place.result c.from_residual-in_err-make_place.ensures.1 in
    rw (p.1, p.2)
    (leaves_refused g.N.PageSource.view _ _
    c.args.engine.now c.make_place.new.engine _
    (leaves_then g.N.PageSource.view
    c.args.engine.now c.make_room.new.engine c.make_place.new.engine _ _
    (λ honest k. keeps_room (ram c.args.engine.now) (ram c.make_room.new.engine) _ _ (c.in_ok-make_room.ensures.truth honest k) (c.in_ok-make_room.ensures.pinned honest k)) c.make_room.ensures.keys.limits
    c.in_ok-make_room.ensures.leaves c.in_err-make_place.ensures.leaves))

pub returns-clause-leaves : goal.returns-clause-leaves
returns-clause-leaves g c = (
    let placed = leaves_then g.N.PageSource.view c.args.engine.now c.make_room.new.engine c.make_place.new.engine _ _
    (λ honest k. keeps_room (ram c.args.engine.now) (ram c.make_room.new.engine) _ _ (c.in_ok-make_room.ensures.truth honest k) (c.in_ok-make_room.ensures.pinned honest k)) c.make_room.ensures.keys.limits
    c.in_ok-make_room.ensures.leaves c.in_ok-make_place.ensures.leaves in
    record {
      safe = c.find_row.ensures.safe;
      fault = ap (λ r. r.fault) c.find_row.ensures.memory;
      geometry = ap (λ r. r.geometry) c.find_row.ensures.memory ∙ placed.geometry;
      die = die_then g.N.PageSource.view _ _ _ placed.die (record { honest_is = c.find_row.ensures.honest; calm_is = c.find_row.ensures.calm; asked = c.find_row.ensures.asked; failed_is = c.find_row.ensures.failed });
      rose = λ bus. risen_over _ _ _ placed.die.failed_is (c.find_row.ensures.rose bus);
      tells = tells_found c.find_row.result (ram c.args.engine.now) (ram c.make_room.new.engine) (ram c.make_place.new.engine)
          (ram c.find_row.new.engine) _ c.in_ok-make_room.ensures.leaves.tells c.in_ok-make_place.ensures.leaves.tells c.find_row.ensures.memory
          c.find_row.ensures.faults;
      went = λ honest ne. went_found (ram c.make_place.new.engine) (ram c.find_row.new.engine) _ c.find_row.ensures.memory (ram c.args.engine.now) _ _
          _ _ _ _ (placed.went honest (ok_not_bus _)) (c.find_row.ensures.same (placed.die.honest_is ∙ honest) ne)
          (c.find_row.ensures.told (placed.die.honest_is ∙ honest) ne);
      stops = λ honest k ne. stops_still g.N.PageSource.view c.args.engine.now c.make_place.new.engine c.find_row.new.engine
          (c.find_row.ensures.same (placed.die.honest_is ∙ honest) ne) (c.find_row.ensures.told (placed.die.honest_is ∙ honest) ne)
          (placed.stops honest k (ok_not_bus _));
      cut = λ honest k bus.
          let room = c.in_ok-make_room.ensures.truth honest k in
          let place = c.in_ok-make_place.ensures.truth (c.make_room.ensures.leaves.die.honest_is ∙ honest) room.truth in
          let keeps = engine_keeps c.args.engine.now.geometry (ram c.make_room.new.engine) (ram c.make_place.new.engine)
          (image_in g.N.PageSource.view.flash c.args.engine.now) _ _ c.make_room.ensures.leaves.geometry c.make_room.ensures.leaves.safe.memory
          c.make_place.ensures.leaves.safe.memory c.make_place.ensures.beside
          (keeps_room (ram c.args.engine.now) (ram c.make_room.new.engine) _ _ room (c.in_ok-make_room.ensures.pinned honest k)) place in
          cuts_on g.N.PageSource.view c.args.engine.now c.make_place.new.engine c.find_row.new.engine placed.geometry
          (limits_then _ _ _ c.make_room.ensures.keys.limits c.make_place.ensures.no_more.limits) keeps.array (placed.stops honest k (ok_not_bus _))
          (cuts_looked g.N.PageSource.view c.make_place.new.engine c.find_row.new.engine c.make_place.ensures.leaves.safe place.truth
          (c.find_row.ensures.cut (placed.die.honest_is ∙ honest) bus));
    })

pub returns-clause-pins : goal.returns-clause-pins
returns-clause-pins g c = ok_any c.find_row.result (λ none. ap (λ r. r.pin.block) c.find_row.ensures.memory ∙ (ap (λ p. p.block) c.make_place.ensures.beside.pin ∙ room_pins g.N.PageSource.view.erases c.args.engine.now c.make_room.new.engine c.in_ok-make_room.ensures.erases none))

pub returns-clause-prepared : goal.returns-clause-prepared
returns-clause-prepared g c = prepared_by c.find_row.result (ram c.args.engine.now) (ram c.make_room.new.engine) (ram c.make_place.new.engine) (ram c.find_row.new.engine) _ c.in_ok-make_room.ensures.made c.in_ok-make_place.ensures.mapping c.find_row.ensures.memory

-- ---- nothing more is said of a refusal

pub returns-in_err-make_room-clause-place : goal.returns-in_err-make_room-clause-place
returns-in_err-make_room-clause-place g c =
    let p = err_from_is_err_and c.from_residual.result c.from_residual.ensures.1 in
    rw p.1 tt

pub returns-in_err-make_room-clause-row : goal.returns-in_err-make_room-clause-row
returns-in_err-make_room-clause-row g c =
    let p = err_from_is_err_and c.from_residual.result c.from_residual.ensures.1 in
    rw p.1 tt

pub returns-in_err-make_room-clause-checked : goal.returns-in_err-make_room-clause-checked
returns-in_err-make_room-clause-checked g c =
    let p = err_from_is_err_and c.from_residual.result c.from_residual.ensures.1 in
    rw p.1 tt

pub returns-in_err-make_room-clause-prepared : goal.returns-in_err-make_room-clause-prepared
returns-in_err-make_room-clause-prepared g c =
    let p = err_from_is_err_and c.from_residual.result c.from_residual.ensures.1 in
    rw p.1 tt

pub returns-in_err-make_room-clause-calm : goal.returns-in_err-make_room-clause-calm
returns-in_err-make_room-clause-calm g c =
    let p = err_from_is_err_and c.from_residual.result c.from_residual.ensures.1 in
    rw p.1 tt

pub returns-in_err-make_room-clause-pins : goal.returns-in_err-make_room-clause-pins
returns-in_err-make_room-clause-pins g c =
    let p = err_from_is_err_and c.from_residual.result c.from_residual.ensures.1 in
    rw p.1 tt

pub returns-in_err-make_room-clause-cost : goal.returns-in_err-make_room-clause-cost
returns-in_err-make_room-clause-cost g c =
    let p = err_from_is_err_and c.from_residual.result c.from_residual.ensures.1 in
    rw p.1 tt

pub returns-in_err-make_place-clause-place : goal.returns-in_err-make_place-clause-place
returns-in_err-make_place-clause-place g c =
    let p = err_from_is_err_and c.from_residual-in_err-make_place.result c.from_residual-in_err-make_place.ensures.1 in
    rw p.1 tt

pub returns-in_err-make_place-clause-row : goal.returns-in_err-make_place-clause-row
returns-in_err-make_place-clause-row g c =
    let p = err_from_is_err_and c.from_residual-in_err-make_place.result c.from_residual-in_err-make_place.ensures.1 in
    rw p.1 tt

pub returns-in_err-make_place-clause-checked : goal.returns-in_err-make_place-clause-checked
returns-in_err-make_place-clause-checked g c =
    let p = err_from_is_err_and c.from_residual-in_err-make_place.result c.from_residual-in_err-make_place.ensures.1 in
    rw p.1 tt

pub returns-in_err-make_place-clause-prepared : goal.returns-in_err-make_place-clause-prepared
returns-in_err-make_place-clause-prepared g c =
    let p = err_from_is_err_and c.from_residual-in_err-make_place.result c.from_residual-in_err-make_place.ensures.1 in
    rw p.1 tt

pub returns-in_err-make_place-clause-calm : goal.returns-in_err-make_place-clause-calm
returns-in_err-make_place-clause-calm g c =
    let p = err_from_is_err_and c.from_residual-in_err-make_place.result c.from_residual-in_err-make_place.ensures.1 in
    rw p.1 tt

pub returns-in_err-make_place-clause-pins : goal.returns-in_err-make_place-clause-pins
returns-in_err-make_place-clause-pins g c =
    let p = err_from_is_err_and c.from_residual-in_err-make_place.result c.from_residual-in_err-make_place.ensures.1 in
    rw p.1 tt

pub returns-in_err-make_place-clause-cost : goal.returns-in_err-make_place-clause-cost
returns-in_err-make_place-clause-cost g c =
    let p = err_from_is_err_and c.from_residual-in_err-make_place.result c.from_residual-in_err-make_place.ensures.1 in
    rw p.1 tt

-- ---- what stays

pub returns-in_err-make_room-clause-keys : goal.returns-in_err-make_room-clause-keys
returns-in_err-make_room-clause-keys g c = c.make_room.ensures.keys.keys

pub returns-in_err-make_room-clause-limits : goal.returns-in_err-make_room-clause-limits
returns-in_err-make_room-clause-limits g c = c.make_room.ensures.keys.limits

pub returns-in_err-make_place-clause-keys : goal.returns-in_err-make_place-clause-keys
returns-in_err-make_place-clause-keys g c = c.make_place.ensures.keys ∙ c.make_room.ensures.keys.keys

pub returns-in_err-make_place-clause-limits : goal.returns-in_err-make_place-clause-limits
returns-in_err-make_place-clause-limits g c = limits_then _ _ _ c.make_room.ensures.keys.limits c.make_place.ensures.no_more.limits

pub returns-clause-keys : goal.returns-clause-keys
returns-clause-keys g c = (ap (λ (r : Ram). keys_of r.mapping.cached) c.find_row.ensures.memory) ∙ (c.make_place.ensures.keys ∙ c.make_room.ensures.keys.keys)

pub returns-clause-limits : goal.returns-clause-limits
returns-clause-limits g c = limits_then _ _ _ (limits_then _ _ _ c.make_room.ensures.keys.limits c.make_place.ensures.no_more.limits) (limits_same _ _ (ap (λ (r : Ram). r.mapping) c.find_row.ensures.memory))

pub returns-clause-row : goal.returns-clause-row
returns-clause-row g c = subst (λ (geometry : Geometry). IfOk c.find_row.result (λ found. ForSome found (λ row. row < row_count geometry))) (c.make_place.ensures.leaves.geometry ∙ c.make_room.ensures.leaves.geometry) c.find_row.ensures.row

-- ---- what the calls want

pub make_place-requires : goal.make_place-requires
make_place-requires g c = record { safe = c.make_room.ensures.leaves.safe; going = c.in_ok-make_room.ensures.leaves.fault }

pub find_row-requires : goal.find_row-requires
find_row-requires g c = record {
  safe = c.make_place.ensures.leaves.safe;
  going = c.in_ok-make_place.ensures.leaves.fault;
  sector = subst (λ (geometry : Geometry). c.args.sector < geometry.sectors) (sym (c.make_place.ensures.leaves.geometry ∙ c.make_room.ensures.leaves.geometry)) c.requires.sector;
}

pub make_room-requires : goal.make_room-requires
make_room-requires g c = record { safe = c.requires.safe; flushes = λ e. absurd (no_true e); going = c.requires.going; calm = c.requires.calm }
