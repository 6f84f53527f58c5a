use Rattle.std.proofs.Common.{subst, rules}
use Rattle.mapping_cache.specs.Mapping.{IsMapping}
use Rattle.mapping_cache.proofs.Rows.{AreLacking-lacking}
use Rattle.mapping_cache.proofs.mapping.Mapping.dirty_of.Goals as goal

pub returns-clause-is : goal.returns-clause-is
returns-clause-is c = search rules

pub returns-clause-just : goal.returns-clause-just
returns-clause-just c = let v = subst IsMapping c.self.view_is c.self.invariant.0 in rw (returns-clause-is c) (AreLacking-lacking c.args.self.now c.args.t v)
