use Rattle.std.proofs.Common.{arith, sym}
use Rattle.allocation.specs.View.{state}
use Rattle.allocation.proofs.SafeLemmas.{next_open, next_found}
use Rattle.allocation.proofs.blocks.Blocks.next_block.Goals as goal

pub returns-in-Some : goal.returns-in-Some
returns-in-Some c = let s = c.args.self.now in next_open s.free (state s) c.args.stream c.in-Some.block s.safe (sym c.in-Some.ensures)

pub returns-in-None : goal.returns-in-None
returns-in-None c = let s = c.args.self.now in next_found s.free (state s) c.args.stream c.least_worn.result s.safe (omega (arith, s.geometry.limits.page_count.least)) (sym c.in-None.ensures) c.least_worn.ensures
