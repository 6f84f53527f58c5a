use Rattle.std.proofs.Common.{length}
use Rattle.onfi_cycles.specs.Cycles.{DataOut}
use Rattle.commands.proofs.SteadyLemmas.{cycle_same}
use Rattle.commands.proofs.PassedLemmas.{cycle_steady, steady_calm}
use Rattle.commands.proofs.steady.SteadyDieBus.data_out.Goals as goal

pub returns-clause-calm : goal.returns-clause-calm
returns-clause-calm c = cycle_same (DataOut (length c.args.bytes.now)) c.args.self.now.die c.data_out.new.self (steady_calm c.args.self.now.die c.args.self.now.steady) c.data_out.ensures.called.does

pub invariant_of-self : goal.invariant_of-self
invariant_of-self c = record { steady = cycle_steady (DataOut (length c.args.bytes.now)) c.args.self.now.die c.data_out.new.self c.args.self.now.steady c.data_out.ensures.calm c.data_out.ensures.called.does }
