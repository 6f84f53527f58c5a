use Rattle.std.proofs.Common.{take}
use Rattle.std.specs.Io.KnownBytes.{Appends}
use Rattle.lab_custody.specs.Lines.{checks_text}
use Rattle.lab_custody.proofs.lines.put_checks.Given as goal

abbrev pub invariant-loop-place : goal.invariant-loop-place
invariant-loop-place g l = Appends (g.W.Output.contents l.fn.out) (g.W.Output.contents l.out) (checks_text l.form (take l.place l.checks))
