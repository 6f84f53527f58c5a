use Rattle.std.specs.Int.{div_ceil}
use Rattle.disk_commands.specs.Shapes.{HasNoDieBelow}
use Rattle.disk_commands.proofs.shapes.share_for.Given as goal

abbrev pub invariant-loop-share : goal.invariant-loop-share
invariant-loop-share l = HasNoDieBelow (div_ceil l.bytes 4096) l.share
