use Rattle.std.proofs.Common.{sym, ◌∙◌}
use Rattle.mapping_cache.specs.View.{mapping_state}
use Rattle.mapping_cache.proofs.Entries.{none_from}
use Rattle.mapping_cache.proofs.Steps.{IsMapping-used, known-used, pending-used, known-kept, slot_of-used, not_moved, moved_here, IsMapping-inserted}
use Rattle.mapping_cache.proofs.Steps.{known-inserted, known-inserted_other, pending-inserted}
use Rattle.mapping_cache.proofs.mapping.Mapping.load.Goals as goal

pub invariant_of-self : goal.invariant_of-self
invariant_of-self c = let m = mapping_state c.self.inside in let v = c.self.invariant.0 in (rw c.promote.ensures.entries (IsMapping-used m c.args.sector v), c.self.invariant.1)

pub returns-then-contains-clause-same_pending : goal.returns-then-contains-clause-same_pending
returns-then-contains-clause-same_pending c = let m = mapping_state c.self.inside in let v = c.self.invariant.0 in λ n. rw (c.promote.ensures.entries, ← c.self.view_is) (pending-used m c.args.sector n v)

pub returns-then-contains-clause-knows : goal.returns-then-contains-clause-knows
returns-then-contains-clause-knows c = let m = mapping_state c.self.inside in let v = c.self.invariant.0 in rw (c.promote.ensures.entries, ← c.self.view_is) (known-kept m c.args.sector c.args.row v (sym c.if-contains.ensures))

pub returns-then-contains-clause-others : goal.returns-then-contains-clause-others
returns-then-contains-clause-others c = let m = mapping_state c.self.inside in let v = c.self.invariant.0 in rw (c.promote.ensures.entries, ← c.self.view_is) (λ n ne r h. sym (known-used m c.args.sector n v) ∙ h)

pub returns-then-contains-clause-valid : goal.returns-then-contains-clause-valid
returns-then-contains-clause-valid c = let m = mapping_state c.self.inside in let v = c.self.invariant.0 in rw c.promote.ensures.entries (IsMapping-used m c.args.sector v)

pub invariant_of-self-2 : goal.invariant_of-self-2
invariant_of-self-2 c = let m = mapping_state c.self.inside in let v = c.self.invariant.0 in let new = none_from _ c.if-contains.ensures in let entry
    = rw (← c.self.view_is) at c.requires.entry in (
      rw (c.in_ok-insert_new.ensures.ok, c.slot_for-slot.ensures, c.deref.ensures.value, c.forget_sector.ensures.items)
          (IsMapping-inserted m c.args.sector c.args.row v new entry),
      rw c.forget_sector.ensures.capacity c.self.invariant.1,
    )

pub returns-clause-same_pending : goal.returns-clause-same_pending
returns-clause-same_pending c = let m = mapping_state c.self.inside in let v = c.self.invariant.0 in let new = none_from _ c.if-contains.ensures in
    let clean = rw (← c.self.view_is) at c.requires.room in λ n. rw
    (c.in_ok-insert_new.ensures.ok, c.slot_for-slot.ensures, c.deref.ensures.value, c.forget_sector.ensures.items, ← c.self.view_is)
    (pending-inserted m c.args.sector c.args.row v new (clean new) n)

pub returns-clause-knows : goal.returns-clause-knows
returns-clause-knows c = let m = mapping_state c.self.inside in let v = c.self.invariant.0 in let new = none_from _ c.if-contains.ensures in rw
    (c.in_ok-insert_new.ensures.ok, c.slot_for-slot.ensures, c.deref.ensures.value, c.forget_sector.ensures.items, ← c.self.view_is)
    (known-inserted m c.args.sector c.args.row v new)

pub returns-clause-others : goal.returns-clause-others
returns-clause-others c = let m = mapping_state c.self.inside in let v = c.self.invariant.0 in let new = none_from _ c.if-contains.ensures in rw
    (c.in_ok-insert_new.ensures.ok, c.slot_for-slot.ensures, c.deref.ensures.value, c.forget_sector.ensures.items, ← c.self.view_is)
    (known-inserted_other m c.args.sector c.args.row v new)

pub returns-clause-valid : goal.returns-clause-valid
returns-clause-valid c = let m = mapping_state c.self.inside in let v = c.self.invariant.0 in let new = none_from _ c.if-contains.ensures in let entry
    = rw (← c.self.view_is) at c.requires.entry in rw
    (c.in_ok-insert_new.ensures.ok, c.slot_for-slot.ensures, c.deref.ensures.value, c.forget_sector.ensures.items)
    (IsMapping-inserted m c.args.sector c.args.row v new entry)

pub returns-then-contains-clause-holds : goal.returns-then-contains-clause-holds
returns-then-contains-clause-holds c = let m = mapping_state c.self.inside in let v = c.self.invariant.0 in rw (c.promote.ensures.entries) (rw (slot_of-used m c.args.sector c.args.sector v) (sym c.if-contains.ensures))

pub returns-then-contains-clause-leaves : goal.returns-then-contains-clause-leaves
returns-then-contains-clause-leaves c = not_moved (mapping_state c.self.inside) c.args.sector c.self.invariant.0 (sym c.if-contains.ensures)

pub returns-clause-leaves : goal.returns-clause-leaves
returns-clause-leaves c = let m = mapping_state c.self.inside in let v = c.self.invariant.0 in let new = none_from _ c.if-contains.ensures in rw c.forget_sector.ensures.items (moved_here m c.args.sector c.args.row v new)
