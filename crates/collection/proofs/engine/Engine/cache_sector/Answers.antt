use Rattle.collection.specs.Safe.{ram}
use Rattle.collection.proofs.MapLemmas.{maps_loaded, loaded_or_kept}
use Rattle.std.proofs.lemmas.Grind.{common_steps}
use Rattle.std.proofs.Common.{arith, rules}
use Rattle.collection.proofs.engine.Engine.cache_sector.Goals as goal

pub returns-clause-truth : goal.returns-clause-truth
returns-clause-truth g c = λ image w here. record {
  whole = w.whole;
  one = w.one;
  below = w.below;
  filled = w.filled;
  live = w.live;
  worn = w.worn;
  tables = w.tables;
  maps = maps_loaded c.args.self.now.geometry image c.args.self.now.directory c.args.self.now.mapping c.load.new.self c.args.sector c.args.row w.maps here
      (loaded_or_kept c.load.result _ _ c.load.ensures.knows c.load.ensures.err) c.load.ensures.others c.load.ensures.same_pending;
}

pub returns-clause-cached : goal.returns-clause-cached
returns-clause-cached g c = c.load.ensures.cached

pub returns-clause-holds : goal.returns-clause-holds
returns-clause-holds g c = c.load.ensures.holds

pub returns-clause-safe : goal.returns-clause-safe
returns-clause-safe g c = search rules

pub returns-clause-loaded : goal.returns-clause-loaded
returns-clause-loaded g c = search rules

pub returns-clause-refused : goal.returns-clause-refused
returns-clause-refused g c = search rules
