use Rattle.std.proofs.Common.{inl, refl}
use Rattle.std.proofs.KnownBytes.{Keeps-refl}
use Rattle.lab_commands.proofs.program.run.Goals as goal

pub returns-in-Ok : goal.returns-in-Ok
returns-in-Ok g c = inl (c.in-Ok.ensures.ok, refl, Keeps-refl (g.E.Output.contents c.args.err.now))
