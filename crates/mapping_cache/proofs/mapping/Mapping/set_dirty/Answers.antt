use Rattle.std.proofs.Common.{◌≡◌, subst, ap, ◌∙◌, rules}
use Rattle.std.specs.Map.{keys_of}
use Rattle.mapping_cache.specs.Mapping.{IsMapping, with_dirty}
use Rattle.mapping_cache.proofs.Steps.{keys-with_dirty, known-with_dirty, pending-with_dirty, known-with_dirty_other, pending-with_dirty_other}
use Rattle.mapping_cache.proofs.Steps.{IsMapping-with_dirty}
use Rattle.mapping_cache.specs.View.{mapping_state}
use Rattle.mapping_cache.proofs.mapping.Mapping.set_dirty.Goals as goal

pub returns-clause-set : goal.returns-clause-set
returns-clause-set c = search rules

same : (c : goal.Joined-peek_mut) → mapping_state c.match-peek_mut.self-inside ≡ with_dirty c.args.self.now c.args.sector c.args.row
same c = search rules

pub invariant_of-self : goal.invariant_of-self
invariant_of-self c = let v = subst IsMapping c.self.view_is c.self.invariant.0 in (rw (same c) (IsMapping-with_dirty c.args.self.now c.args.sector c.args.row v c.requires.cached c.requires.entry), search rules)

pub returns-clause-knows : goal.returns-clause-knows
returns-clause-knows c = let v = subst IsMapping c.self.view_is c.self.invariant.0 in rw (returns-clause-set c) (known-with_dirty c.args.self.now c.args.sector c.args.row v c.requires.cached)

pub returns-clause-pends : goal.returns-clause-pends
returns-clause-pends c = let v = subst IsMapping c.self.view_is c.self.invariant.0 in rw (returns-clause-set c) (pending-with_dirty c.args.self.now c.args.sector c.args.row v c.requires.cached)

pub returns-clause-others_known : goal.returns-clause-others_known
returns-clause-others_known c = let v = subst IsMapping c.self.view_is c.self.invariant.0 in λ n ne. rw (returns-clause-set c) (known-with_dirty_other c.args.self.now c.args.sector c.args.row v c.requires.cached n ne)

pub returns-clause-others_pending : goal.returns-clause-others_pending
returns-clause-others_pending c = let v = subst IsMapping c.self.view_is c.self.invariant.0 in λ n ne. rw (returns-clause-set c) (pending-with_dirty_other c.args.self.now c.args.sector c.args.row v c.requires.cached n ne)

pub returns-clause-valid : goal.returns-clause-valid
returns-clause-valid c = let v = subst IsMapping c.self.view_is c.self.invariant.0 in rw (returns-clause-set c) (IsMapping-with_dirty c.args.self.now c.args.sector c.args.row v c.requires.cached c.requires.entry)

pub returns-clause-keys : goal.returns-clause-keys
returns-clause-keys c = let v = subst IsMapping c.self.view_is c.self.invariant.0 in ap (λ m. keys_of m.cached) (same c) ∙ keys-with_dirty c.args.self.now c.args.sector c.args.row v c.requires.cached
