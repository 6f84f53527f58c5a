use Rattle.std.proofs.Common.{Some, None}
use Rattle.collection.specs.Safe.{ram}
use Rattle.collection.proofs.HalfDone.{true_from, but_from, refreshes_from, emptied_from, counts_from, cost_from, acts_from, idle_half, sparing_from, idle_law, passed_none, idle_few}
use Rattle.collection.proofs.Stops.{stops_sized}
use Rattle.std.proofs.Common.{refl}
use Rattle.collection.proofs.Cuts.{cut_sized}
use Rattle.collection.proofs.engine.Engine.collect_block.Goals as goal

pub collect_from-requires-clause-half_done : goal.collect_from-requires-clause-half_done
collect_from-requires-clause-half_done g c = idle_half (ram c.args.self.now) c.args.block _ c.requires.idle c.requires.block c.requires.closed

pub returns-clause-acts : goal.returns-clause-acts
returns-clause-acts g c = acts_from c.args.self.now _ _ _ c.collect_from.ensures.acts

pub returns-clause-goes : goal.returns-clause-goes
returns-clause-goes g c = but_from (ram c.args.self.now) _ _ c.args.block c.collect_from.ensures.goes

pub returns-clause-refreshes : goal.returns-clause-refreshes
returns-clause-refreshes g c = λ on. refreshes_from (ram c.args.self.now) _ _ (c.collect_from.ensures.refreshes on)

pub returns-clause-cost : goal.returns-clause-cost
returns-clause-cost g c = cost_from (ram c.args.self.now) _ _ c.args.flushing c.args.block _ c.collect_from.ensures.cost

pub returns-clause-sparing : goal.returns-clause-sparing
returns-clause-sparing g c = λ honest w. sparing_from (ram c.args.self.now) (ram c.collect_from.new.self)
    (Some (record { block = c.args.block; first = 0 })) c.args.flushing c.args.block c.collect_from.result
    (c.collect_from.ensures.sparing honest
    (true_from (ram c.args.self.now) (ram c.args.self.now) (Some (record { block = c.args.block; first = 0 })) None _ w)
    (passed_none (ram c.args.self.now) _ c.args.block) (let none = idle_law c.args.flushing (ram c.args.self.now) c.requires.idle in record { few = none.few; unmarked = none.unmarked }))

pub returns-clause-truth : goal.returns-clause-truth
returns-clause-truth g c = λ honest w. emptied_from (ram c.args.self.now) (ram c.collect_from.new.self)
    (Some (record { block = c.args.block; first = 0 })) c.args.block _ _ c.collect_from.result
    (c.collect_from.ensures.truth honest
    (true_from (ram c.args.self.now) (ram c.args.self.now) (Some (record { block = c.args.block; first = 0 })) None _ w)
    (passed_none (ram c.args.self.now) _ c.args.block))

pub returns-clause-count : goal.returns-clause-count
returns-clause-count g c = λ honest w small. counts_from (ram c.args.self.now) (ram c.collect_from.new.self)
    (Some (record { block = c.args.block; first = 0 })) c.collect_from.result
    (c.collect_from.ensures.count honest
    (true_from (ram c.args.self.now) (ram c.args.self.now) (Some (record { block = c.args.block; first = 0 })) None _ w)
    (passed_none (ram c.args.self.now) _ c.args.block)
    (idle_few (ram c.args.self.now) c.args.block (Some (record { block = c.args.block; first = 0 })) c.requires.block c.requires.idle small))

pub returns-clause-thrifty : goal.returns-clause-thrifty
returns-clause-thrifty g c = λ honest w small ne. c.collect_from.ensures.thrifty honest
    (true_from (ram c.args.self.now) (ram c.args.self.now) (Some (record { block = c.args.block; first = 0 })) None _ w)
    (passed_none (ram c.args.self.now) _ c.args.block)
    (idle_few (ram c.args.self.now) c.args.block (Some (record { block = c.args.block; first = 0 })) c.requires.block c.requires.idle small) ne

pub returns-clause-few : goal.returns-clause-few
returns-clause-few g c = λ honest w small ne. c.collect_from.ensures.few honest
    (true_from (ram c.args.self.now) (ram c.args.self.now) (Some (record { block = c.args.block; first = 0 })) None _ w)
    (passed_none (ram c.args.self.now) _ c.args.block)
    (idle_few (ram c.args.self.now) c.args.block (Some (record { block = c.args.block; first = 0 })) c.requires.block c.requires.idle small) ne

-- ---- what a stop leaves

pub returns-clause-stops : goal.returns-clause-stops
returns-clause-stops g c = λ honest w ne. stops_sized (ram c.args.self.now) _ _ _ _ _ (record { geometry = refl; capacity = refl; share = refl })
    (c.collect_from.ensures.stops honest
    (true_from (ram c.args.self.now) (ram c.args.self.now) (Some (record { block = c.args.block; first = 0 })) None _ w)
    (passed_none (ram c.args.self.now) _ c.args.block) ne)

-- ---- what a fault of the die leaves

pub returns-clause-cut : goal.returns-clause-cut
returns-clause-cut g c = λ honest w is. cut_sized (ram c.args.self.now) _ _ _ _ (record { geometry = refl; capacity = refl; share = refl })
    (c.collect_from.ensures.cut honest
    (true_from (ram c.args.self.now) (ram c.args.self.now) (Some (record { block = c.args.block; first = 0 })) None _ w)
    (passed_none (ram c.args.self.now) _ c.args.block) is)
