use Rattle.allocation.specs.View.{state}
use Rattle.allocation.proofs.SafeLemmas.{safe_live_read}
use Rattle.allocation.proofs.blocks.Blocks.live_down.Goals as goal

pub invariant_of-self : goal.invariant_of-self
invariant_of-self c = record { safe = safe_live_read _ (state c.args.self.now) _ _ _ c.requires c.index_mut.ensures.value c.args.self.now.safe }
