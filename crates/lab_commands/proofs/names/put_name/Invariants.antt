use Rattle.std.specs.Io.KnownBytes.{Appends}
use Rattle.lab_commands.specs.Names.{shown_below}
use Rattle.lab_commands.proofs.names.put_name.Given as goal

abbrev pub invariant-loop-place : goal.invariant-loop-place
invariant-loop-place g l = Appends (g.W.Output.contents l.fn.out) (g.W.Output.contents l.out) (shown_below l.name l.place)
