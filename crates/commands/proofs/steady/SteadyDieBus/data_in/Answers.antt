use Rattle.onfi_cycles.specs.Cycles.{DataIn}
use Rattle.commands.proofs.SteadyLemmas.{cycle_same}
use Rattle.commands.proofs.PassedLemmas.{cycle_steady, steady_calm}
use Rattle.commands.proofs.steady.SteadyDieBus.data_in.Goals as goal

pub returns-clause-calm : goal.returns-clause-calm
returns-clause-calm c = cycle_same (DataIn c.args.bytes.now) c.args.self.now.die c.data_in.new.self (steady_calm c.args.self.now.die c.args.self.now.steady) c.data_in.ensures.called.does

pub invariant_of-self : goal.invariant_of-self
invariant_of-self c = record { steady = cycle_steady (DataIn c.args.bytes.now) c.args.self.now.die c.data_in.new.self c.args.self.now.steady c.data_in.ensures.calm c.data_in.ensures.called.does }
