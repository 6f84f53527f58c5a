use Rattle.onfi_cycles.specs.Cycles.{Command}
use Rattle.commands.proofs.SteadyLemmas.{cycle_same}
use Rattle.commands.proofs.PassedLemmas.{cycle_steady, steady_calm}
use Rattle.commands.proofs.steady.SteadyDieBus.command.Goals as goal

pub returns-clause-calm : goal.returns-clause-calm
returns-clause-calm c = cycle_same (Command c.args.code) c.args.self.now.die c.command.new.self (steady_calm c.args.self.now.die c.args.self.now.steady) c.command.ensures.called.does

pub invariant_of-self : goal.invariant_of-self
invariant_of-self c = record { steady = cycle_steady (Command c.args.code) c.args.self.now.die c.command.new.self c.args.self.now.steady c.command.ensures.calm c.command.ensures.called.does }
