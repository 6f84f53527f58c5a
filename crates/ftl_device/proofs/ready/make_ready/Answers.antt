use Rattle.std.proofs.Common.{◌∙◌, ◌<◌, Err, refl, ap, sym, subst}
use Rattle.collection.proofs.Looks.{ok_not_bus}
use Rattle.std.specs.Option.{ForSome}
use Rattle.std.specs.Map.{keys_of}
use Rattle.std.proofs.lemmas.Result.{err_from_is_err_and}
use Rattle.page_layout.specs.Geometry.{row_count}
use Rattle.collection.specs.Safe.{ram, image_in}
use Rattle.ftl_device.proofs.ReadyLemmas.{same_slots, most_recent}
use Rattle.ftl_device.proofs.CostLemmas.{order_ready, ready_then}
use Rattle.ftl_device.proofs.EndLemmas.{ends_refused, ends_memory, ends_loaded}
use Rattle.ftl_device.proofs.LeaveLemmas.{leaves_cut}
use Rattle.ftl_device.proofs.ReadLemmas.{is_looked_up}
use Rattle.ftl_device.specs.Calls.{KeepsArray}
use Rattle.ftl_device.specs.Shortage.{HasFunds}
use Rattle.ftl_device.proofs.PrepareLemmas.{keeps_loaded}
use Rattle.ftl_device.proofs.SpentLemmas.{room_kept, room_to_call}
use Rattle.ftl_device.proofs.AnswerLemmas.{no_true, no_err, no_memory, err_same}
use Rattle.ftl_device.proofs.ready.make_ready.Goals as goal

-- ---- it was not prepared

pub returns-in_err-row-clause-kept : goal.returns-in_err-row-clause-kept
returns-in_err-row-clause-kept g c =
    let p = err_from_is_err_and c.from_residual.result c.from_residual.ensures.1 in
    rw (p.1, p.2) (record {
      ends = ends_refused g.N.PageSource.view c.args.engine.now
          c.prepare.new.engine _ c.prepare.ensures.leaves.safe c.in_err-row.ensures.leaves.fault c.prepare.ensures.leaves.geometry
          c.prepare.ensures.leaves.die
          (λ is. c.in_err-row.ensures.leaves.rose (ap Err is)) c.prepare.ensures.limits c.in_err-row.ensures.leaves.tells
          (λ honest ne. c.in_err-row.ensures.leaves.went honest (λ e. ne (err_same _ _ _ refl e))) (λ honest k ne. c.in_err-row.ensures.leaves.stops honest k (λ e. ne (err_same _ _ _ refl e)));
      cut = leaves_cut g.N.PageSource.view c.args.engine.now c.prepare.new.engine _ c.in_err-row.ensures.leaves;
      truth = c.in_err-row.ensures.truth;
    })

pub returns-in_err-row-clause-readies : goal.returns-in_err-row-clause-readies
returns-in_err-row-clause-readies g c =
    let p = err_from_is_err_and c.from_residual.result c.from_residual.ensures.1 in
    rw (p.1, p.2) (record {
      recent = tt;
      keys = tt;
      unwritten = λ e. absurd (no_memory _ _ refl e);
      same_keys = λ e. absurd (no_memory _ _ refl e);
      cached = λ some e. absurd (no_memory _ _ refl e);
      costs = room_to_call (HasFunds (g.N.PageSource.view.honest c.args.engine.now.nand) (ram c.args.engine.now) (image_in g.N.PageSource.view.flash c.args.engine.now)) _ (ram c.args.engine.now) (ram c.prepare.new.engine) c.in_err-row.ensures.costs;
      pins = tt;
    })

-- ---- its entry is one of the die

pub cache_sector-requires-clause-entry : goal.cache_sector-requires-clause-entry
cache_sector-requires-clause-entry g c =
    let same = sym c.prepare.ensures.leaves.geometry in
    record {
      sector = subst (λ geometry. c.args.sector < geometry.sectors) same c.requires.sector;
      row_in = subst (λ geometry. ForSome c.in_ok-row.row (λ r. r < row_count geometry)) same c.in_ok-row.ensures.row;
    }

-- ---- there was no memory for its entry

pub returns-in_err-cache_sector-clause-kept : goal.returns-in_err-cache_sector-clause-kept
returns-in_err-cache_sector-clause-kept g c =
    let p = err_from_is_err_and c.from_residual-in_err-cache_sector.result c.from_residual-in_err-cache_sector.ensures.1 in
    rw (p.1, p.2) (record {
      ends = ends_memory g.N.PageSource.view c.args.engine.now
          c.prepare.new.engine c.prepare.ensures.leaves.safe c.in_ok-row.ensures.leaves.fault c.prepare.ensures.leaves.geometry
          c.prepare.ensures.leaves.die
          c.prepare.ensures.limits c.in_ok-row.ensures.calm c.in_ok-row.ensures.leaves.tells
          (λ honest. c.in_ok-row.ensures.leaves.went honest (ok_not_bus _))
          (λ honest k. c.in_ok-row.ensures.leaves.stops honest k (ok_not_bus _)) c.cache_sector.new.self
          c.in_err-cache_sector.ensures.refused;
      cut = λ honest k bus. absurd (no_memory _ _ bus refl);
      truth = λ honest w. subst (λ e. KeepsArray c.args.engine.now.geometry (image_in g.N.PageSource.view.flash c.args.engine.now) (ram e) (image_in g.N.PageSource.view.flash e)) (sym c.in_err-cache_sector.ensures.refused) (c.in_ok-row.ensures.truth honest w).keeps;
    })

pub returns-in_err-cache_sector-clause-readies : goal.returns-in_err-cache_sector-clause-readies
returns-in_err-cache_sector-clause-readies g c =
    let p = err_from_is_err_and c.from_residual-in_err-cache_sector.result c.from_residual-in_err-cache_sector.ensures.1 in
    rw (p.1, p.2) (record {
      recent = tt;
      keys = tt;
      unwritten = λ _. ready_then c.args.sector (ram c.args.engine.now) (ram c.prepare.new.engine) (ram c.cache_sector.new.self)
          (ap (λ e. e.geometry) c.in_err-cache_sector.ensures.refused) (ap (λ e. (ram e).blocks) c.in_err-cache_sector.ensures.refused)
          (ap (λ e. e.next) c.in_err-cache_sector.ensures.refused) c.in_ok-row.ensures.cost;
      same_keys = λ _. ap (λ e. keys_of e.mapping.cached) c.in_err-cache_sector.ensures.refused ∙ c.prepare.ensures.keys;
      cached = λ some _. no_true (c.in_err-cache_sector.ensures.cached (same_slots c.args.sector c.args.engine.now.mapping c.prepare.new.engine.mapping c.prepare.ensures.keys some));
      costs = room_kept
          (HasFunds (g.N.PageSource.view.honest c.args.engine.now.nand) (ram c.args.engine.now) (image_in g.N.PageSource.view.flash c.args.engine.now)) 1
          (ram c.args.engine.now) (ram c.prepare.new.engine) (ram c.cache_sector.new.self)
          (ap (λ e. (ram e).blocks) c.in_err-cache_sector.ensures.refused) c.in_ok-row.ensures.costs;
      pins = λ none. ap (λ e. e.pinned) c.in_err-cache_sector.ensures.refused ∙ c.in_ok-row.ensures.pins none;
    })

-- ---- it is cached

pub returns-clause-kept : goal.returns-clause-kept
returns-clause-kept g c = record {
  ends = ends_loaded g.N.PageSource.view c.args.engine.now
      c.prepare.new.engine c.prepare.ensures.leaves.safe c.in_ok-row.ensures.leaves.fault c.prepare.ensures.leaves.geometry
      c.prepare.ensures.leaves.die
      c.prepare.ensures.limits c.in_ok-row.ensures.calm c.in_ok-row.ensures.leaves.tells
      (λ honest. c.in_ok-row.ensures.leaves.went honest (ok_not_bus _))
      (λ honest k. c.in_ok-row.ensures.leaves.stops honest k (ok_not_bus _)) c.cache_sector.new.self c.args.sector _
      c.in_ok-cache_sector.ensures.loaded c.cache_sector.ensures.safe;
  cut = λ honest w bus. absurd (no_err _ _ _ refl bus);
  truth = λ honest w.
      let found = c.in_ok-row.ensures.truth honest w in
      keeps_loaded c.prepare.new.engine c.cache_sector.new.self c.args.sector _ c.in_ok-cache_sector.ensures.loaded g.N.PageSource.view.flash _ _
      c.prepare.ensures.leaves.safe.memory c.cache_sector.ensures.safe.memory found.keeps
      (c.cache_sector.ensures.truth _ found.keeps.truth.truth found.row_is);
}

pub returns-clause-readies : goal.returns-clause-readies
returns-clause-readies g c = record {
  recent = most_recent c.prepare.new.engine.mapping c.cache_sector.new.self.mapping c.args.sector _ (ap (λ e. e.mapping) c.in_ok-cache_sector.ensures.loaded);
  keys = order_ready c.args.sector _ c.args.engine.now.mapping c.prepare.new.engine.mapping c.cache_sector.new.self.mapping c.prepare.ensures.keys c.prepare.ensures.limits.capacity (ap (λ e. e.mapping) c.in_ok-cache_sector.ensures.loaded);
  unwritten = λ e. absurd (no_err _ _ _ refl e);
  same_keys = λ e. absurd (no_err _ _ _ refl e);
  cached = λ some e. absurd (no_err _ _ _ refl e);
  costs = room_kept
      (HasFunds (g.N.PageSource.view.honest c.args.engine.now.nand) (ram c.args.engine.now) (image_in g.N.PageSource.view.flash c.args.engine.now)) 1
      (ram c.args.engine.now) (ram c.prepare.new.engine) (ram c.cache_sector.new.self) (ap (λ e. (ram e).blocks) c.in_ok-cache_sector.ensures.loaded)
      c.in_ok-row.ensures.costs;
  pins = λ none. ap (λ e. e.pinned) c.in_ok-cache_sector.ensures.loaded ∙ c.in_ok-row.ensures.pins none;
}

pub returns-clause-cost : goal.returns-clause-cost
returns-clause-cost g c = ready_then c.args.sector (ram c.args.engine.now) (ram c.prepare.new.engine) (ram c.cache_sector.new.self)
    (ap (λ e. e.geometry) c.in_ok-cache_sector.ensures.loaded) (ap (λ e. (ram e).blocks) c.in_ok-cache_sector.ensures.loaded)
    (ap (λ e. e.next) c.in_ok-cache_sector.ensures.loaded) c.in_ok-row.ensures.cost

pub returns-clause-checked : goal.returns-clause-checked
returns-clause-checked g c = is_looked_up (ram c.args.engine.now) c.prepare.new.engine c.cache_sector.new.self c.args.sector c.in_ok-row.row c.in_ok-cache_sector.ensures.loaded c.in_ok-row.ensures.prepared c.in_ok-row.ensures.checked

-- ---- nothing more is said of a refusal

pub returns-in_err-row-clause-holds : goal.returns-in_err-row-clause-holds
returns-in_err-row-clause-holds g c =
    let p = err_from_is_err_and c.from_residual.result c.from_residual.ensures.1 in
    rw p.1 tt

pub returns-in_err-row-clause-checked : goal.returns-in_err-row-clause-checked
returns-in_err-row-clause-checked g c =
    let p = err_from_is_err_and c.from_residual.result c.from_residual.ensures.1 in
    rw p.1 tt

pub returns-in_err-row-clause-cost : goal.returns-in_err-row-clause-cost
returns-in_err-row-clause-cost g c =
    let p = err_from_is_err_and c.from_residual.result c.from_residual.ensures.1 in
    rw p.1 tt

pub returns-in_err-cache_sector-clause-holds : goal.returns-in_err-cache_sector-clause-holds
returns-in_err-cache_sector-clause-holds g c =
    let p = err_from_is_err_and c.from_residual-in_err-cache_sector.result c.from_residual-in_err-cache_sector.ensures.1 in
    rw p.1 tt

pub returns-in_err-cache_sector-clause-checked : goal.returns-in_err-cache_sector-clause-checked
returns-in_err-cache_sector-clause-checked g c =
    let p = err_from_is_err_and c.from_residual-in_err-cache_sector.result c.from_residual-in_err-cache_sector.ensures.1 in
    rw p.1 tt

pub returns-in_err-cache_sector-clause-cost : goal.returns-in_err-cache_sector-clause-cost
returns-in_err-cache_sector-clause-cost g c =
    let p = err_from_is_err_and c.from_residual-in_err-cache_sector.result c.from_residual-in_err-cache_sector.ensures.1 in
    rw p.1 tt

-- ---- what the calls want

pub prepare-requires : goal.prepare-requires
prepare-requires g c = record { safe = c.requires.safe; going = c.requires.going; calm = c.requires.calm; sector = c.requires.sector }

pub cache_sector-requires-clause-safe : goal.cache_sector-requires-clause-safe
cache_sector-requires-clause-safe g c = c.prepare.ensures.leaves.safe

pub cache_sector-requires-clause-room : goal.cache_sector-requires-clause-room
cache_sector-requires-clause-room g c = c.in_ok-row.ensures.place

pub returns-clause-holds : goal.returns-clause-holds
returns-clause-holds g c = c.in_ok-cache_sector.ensures.holds
