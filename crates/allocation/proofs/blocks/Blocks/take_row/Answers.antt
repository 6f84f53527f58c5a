use Rattle.std.proofs.Common.{subst, sym}
use Rattle.allocation.specs.State.{State}
use Rattle.budget.specs.Counts.{TakesOne}
use Rattle.allocation.specs.Counts.{counts_of}
use Rattle.allocation.specs.View.{state}
use Rattle.allocation.proofs.TallyLemmas.{takes_one}
use Rattle.allocation.proofs.blocks.Blocks.take_row.Goals as goal

pub returns-clause-counted : goal.returns-clause-counted
returns-clause-counted c =
    let s = c.args.self.now in
    subst (λ (x : State). TakesOne c.args.stream s.geometry.pages (counts_of (state s)) (counts_of x)) (sym c.advance.ensures) (takes_one s.free (state s) c.args.stream c.in_ok-block.block s.safe c.in_ok-block.ensures)
