use Rattle.std.proofs.Common.{arith}
use Rattle.mapping_cache.specs.View.{mapping_state}
use Rattle.mapping_cache.proofs.Steps.{length-with_moved, IsMapping-with_moved, known-with_moved, pending-with_moved}
use Rattle.mapping_cache.proofs.Steps.{known-with_moved_other, pending-with_moved_other}
use Rattle.mapping_cache.proofs.mapping.Mapping.move_entry.Goals as goal

pub list_sector-requires-clause-by_sector : goal.list_sector-requires-clause-by_sector
list_sector-requires-clause-by_sector c = c.self.invariant.0.by_sector

pub list_sector-requires-clause-room : goal.list_sector-requires-clause-room
list_sector-requires-clause-room c = let room = rw (← c.self.view_is) at c.requires.room in let fits = c.self.invariant.1 in λ unmoved. (let short = room unmoved in omega arith)

pub invariant_of-self : goal.invariant_of-self
invariant_of-self c = let m = mapping_state c.self.inside in let v = c.self.invariant.0 in let uncached = rw (← c.self.view_is) at c.requires.uncached
    in let room = rw (← c.self.view_is) at c.requires.room in let entry = rw (← c.self.view_is) at c.requires.entry in (
      rw (c.list_sector.ensures.items) (IsMapping-with_moved m c.args.sector c.args.row v uncached room entry),
      rw c.list_sector.ensures.capacity c.self.invariant.1,
    )

pub returns-clause-set : goal.returns-clause-set
returns-clause-set c = rw (← c.self.view_is, c.list_sector.ensures.items)

pub returns-clause-knows : goal.returns-clause-knows
returns-clause-knows c = let m = mapping_state c.self.inside in let v = c.self.invariant.0 in let uncached = rw (← c.self.view_is) at c.requires.uncached in rw (c.list_sector.ensures.items) (known-with_moved m c.args.sector c.args.row v uncached)

pub returns-clause-pends : goal.returns-clause-pends
returns-clause-pends c = let m = mapping_state c.self.inside in let v = c.self.invariant.0 in let uncached = rw (← c.self.view_is) at c.requires.uncached in rw (c.list_sector.ensures.items) (pending-with_moved m c.args.sector c.args.row v uncached)

pub returns-clause-others_known : goal.returns-clause-others_known
returns-clause-others_known c = let m = mapping_state c.self.inside in let v = c.self.invariant.0 in let uncached = rw (← c.self.view_is) at
    c.requires.uncached in λ n ne. rw (c.list_sector.ensures.items, ← c.self.view_is)
    (known-with_moved_other m c.args.sector c.args.row v uncached n ne)

pub returns-clause-others_pending : goal.returns-clause-others_pending
returns-clause-others_pending c = let m = mapping_state c.self.inside in let v = c.self.invariant.0 in let uncached = rw (← c.self.view_is) at
    c.requires.uncached in λ n ne. rw (c.list_sector.ensures.items, ← c.self.view_is)
    (pending-with_moved_other m c.args.sector c.args.row v uncached n ne)

pub returns-clause-valid : goal.returns-clause-valid
returns-clause-valid c = let m = mapping_state c.self.inside in let v = c.self.invariant.0 in let uncached = rw (← c.self.view_is) at
    c.requires.uncached in let room = rw (← c.self.view_is) at c.requires.room in let entry = rw (← c.self.view_is) at c.requires.entry in rw
    (c.list_sector.ensures.items) (IsMapping-with_moved m c.args.sector c.args.row v uncached room entry)

pub returns-clause-one_more : goal.returns-clause-one_more
returns-clause-one_more c = let m = mapping_state c.self.inside in let v = c.self.invariant.0 in let uncached = rw (← c.self.view_is) at c.requires.uncached in rw (c.list_sector.ensures.items, ← c.self.view_is) (length-with_moved m c.args.sector c.args.row v uncached)
