use Rattle.std.proofs.Common.{take}
use Rattle.std.specs.Io.KnownBytes.{Appends}
use Rattle.json.specs.Print.{escape}
use Rattle.lab_custody.proofs.lines.put_bytes.Given as goal

abbrev pub invariant-loop-place : goal.invariant-loop-place
invariant-loop-place g l = Appends (g.W.Output.contents l.fn.out) (g.W.Output.contents l.out) (escape (take l.place l.bytes))
