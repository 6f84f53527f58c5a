use Rattle.std.proofs.Common.{sym, ◌∙◌, refl, ap}
use Rattle.ftl_device.proofs.ReadLemmas.{looked_by, limits_by, moved_by, others_by, moved_out, not_moved_here, device_mapped, left_out}
use Rattle.ftl_device.proofs.AnswerLemmas.{no_bool, cached_loads}
use Rattle.ftl_device.proofs.device.Device.remember.Goals as goal

pub returns-then-is_moved-clause-looks_up : goal.returns-then-is_moved-clause-looks_up
returns-then-is_moved-clause-looks_up g c = moved_out c.args.self.now.engine.mapping c.args.sector c.args.row c.requires.device.engine.memory.mapping (sym c.is_moved.ensures ∙ c.if-is_moved.true)

pub returns-then-can_load-clause-looks_up : goal.returns-then-can_load-clause-looks_up
returns-then-can_load-clause-looks_up g c = looked_by c.args.self.now.engine c.cache_sector.new.self c.args.sector c.args.row c.cache_sector.result
    c.requires.device.engine.memory.mapping
    (not_moved_here c.args.self.now.engine.mapping c.args.sector (sym c.is_moved.ensures ∙ c.if-is_moved.false))
    (c.can_load.ensures.0 c.if-can_load.true) c.cache_sector.ensures.loaded c.cache_sector.ensures.refused c.cache_sector.ensures.cached

pub returns-then-can_load-clause-limits : goal.returns-then-can_load-clause-limits
returns-then-can_load-clause-limits g c = limits_by c.args.self.now.engine c.cache_sector.new.self c.args.sector c.args.row c.cache_sector.result c.cache_sector.ensures.loaded c.cache_sector.ensures.refused

pub returns-then-can_load-clause-moved : goal.returns-then-can_load-clause-moved
returns-then-can_load-clause-moved g c = moved_by c.args.self.now.engine c.cache_sector.new.self c.args.sector c.args.row c.cache_sector.result
    (not_moved_here c.args.self.now.engine.mapping c.args.sector (sym c.is_moved.ensures ∙ c.if-is_moved.false)) c.cache_sector.ensures.loaded
    c.cache_sector.ensures.refused

pub returns-then-can_load-clause-device : goal.returns-then-can_load-clause-device
returns-then-can_load-clause-device g c = device_mapped g.N.PageSource.view.flash c.args.self.now c.cache_sector.new.self c.requires.device
    c.cache_sector.ensures.safe
    (others_by c.args.self.now.engine c.cache_sector.new.self c.args.sector c.args.row c.cache_sector.result c.cache_sector.ensures.loaded
    c.cache_sector.ensures.refused) (returns-then-can_load-clause-limits g c).share (returns-then-can_load-clause-moved g c)

-- ---- nothing is done

pub returns-then-is_moved-clause-limits : goal.returns-then-is_moved-clause-limits
returns-then-is_moved-clause-limits g c = record { geometry = refl; capacity = refl; share = refl }

pub returns-then-is_moved-clause-moved : goal.returns-then-is_moved-clause-moved
returns-then-is_moved-clause-moved g c = refl

pub returns-then-is_moved-clause-same : goal.returns-then-is_moved-clause-same
returns-then-is_moved-clause-same g c = refl

pub returns-then-is_moved-clause-truth : goal.returns-then-is_moved-clause-truth
returns-then-is_moved-clause-truth g c = λ image truth row_is. truth

pub returns-then-is_moved-clause-device : goal.returns-then-is_moved-clause-device
returns-then-is_moved-clause-device g c = c.requires.device

pub returns-else-can_load-clause-limits : goal.returns-else-can_load-clause-limits
returns-else-can_load-clause-limits g c = record { geometry = refl; capacity = refl; share = refl }

pub returns-else-can_load-clause-moved : goal.returns-else-can_load-clause-moved
returns-else-can_load-clause-moved g c = refl

pub returns-else-can_load-clause-same : goal.returns-else-can_load-clause-same
returns-else-can_load-clause-same g c = refl

pub returns-else-can_load-clause-truth : goal.returns-else-can_load-clause-truth
returns-else-can_load-clause-truth g c = λ image truth row_is. truth

pub returns-else-can_load-clause-device : goal.returns-else-can_load-clause-device
returns-else-can_load-clause-device g c = c.requires.device

pub returns-else-can_load-clause-looks_up : goal.returns-else-can_load-clause-looks_up
returns-else-can_load-clause-looks_up g c = left_out c.args.self.now.engine.mapping c.args.sector c.args.row (λ some. no_bool _ c.if-can_load.false (c.can_load.ensures.1 (cached_loads c.args.self.now.engine.mapping c.args.sector some)))

-- ---- it was to be cached

pub returns-then-can_load-clause-same : goal.returns-then-can_load-clause-same
returns-then-can_load-clause-same g c = ap (λ e. record c.args.self.now { engine = e }) (others_by c.args.self.now.engine c.cache_sector.new.self c.args.sector c.args.row c.cache_sector.result c.cache_sector.ensures.loaded c.cache_sector.ensures.refused)

pub returns-then-can_load-clause-truth : goal.returns-then-can_load-clause-truth
returns-then-can_load-clause-truth g c = c.cache_sector.ensures.truth

-- ---- what the calls want

pub cache_sector-requires-clause-safe : goal.cache_sector-requires-clause-safe
cache_sector-requires-clause-safe g c = c.requires.device.engine

pub cache_sector-requires-clause-room : goal.cache_sector-requires-clause-room
cache_sector-requires-clause-room g c = c.can_load.ensures.0 c.if-can_load.true

pub cache_sector-requires-clause-entry : goal.cache_sector-requires-clause-entry
cache_sector-requires-clause-entry g c = record { sector = c.requires.sector; row_in = c.requires.row }
