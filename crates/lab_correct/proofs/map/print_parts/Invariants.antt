use Rattle.std.specs.Io.KnownBytes.{Appends}
use Rattle.page_layout.specs.Geometry.{page_bytes}
use Rattle.lab_correct.specs.Map.{parts_below}
use Rattle.lab_correct.proofs.map.print_parts.Given as goal

abbrev pub invariant-loop-i : goal.invariant-loop-i
invariant-loop-i g l = Appends (g.W.MapWriter.contents l.fn.out) (g.W.MapWriter.contents l.out) (parts_below (page_bytes l.geometry) l.losses l.i)
