use Rattle.onfi_cycles.specs.Cycles.{Address}
use Rattle.commands.proofs.SteadyLemmas.{cycle_same}
use Rattle.commands.proofs.PassedLemmas.{cycle_steady, steady_calm}
use Rattle.commands.proofs.steady.SteadyDieBus.address.Goals as goal

pub returns-clause-calm : goal.returns-clause-calm
returns-clause-calm c = cycle_same (Address c.args.byte) c.args.self.now.die c.address.new.self (steady_calm c.args.self.now.die c.args.self.now.steady) c.address.ensures.called.does

pub invariant_of-self : goal.invariant_of-self
invariant_of-self c = record { steady = cycle_steady (Address c.args.byte) c.args.self.now.die c.address.new.self c.args.self.now.steady c.address.ensures.calm c.address.ensures.called.does }
