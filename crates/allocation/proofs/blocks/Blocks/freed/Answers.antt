use Rattle.std.proofs.Common.{arith}
use Rattle.allocation.specs.View.{state}
use Rattle.allocation.proofs.SafeLemmas.{safe_erased_read, free_fits}
use Rattle.allocation.proofs.blocks.Blocks.freed.Goals as goal

pub overflow_add-self : goal.overflow_add-self
overflow_add-self c = omega (arith, free_fits _ (state c.args.self.now) c.args.self.now.safe, c.args.self.now.geometry.limits.block_count.most)

pub invariant_of-self : goal.invariant_of-self
invariant_of-self c = record { safe = safe_erased_read _ (state c.args.self.now) _ _ _ c.requires.within c.requires.closed c.index_mut.ensures.value c.count_erase.ensures c.args.self.now.safe }
