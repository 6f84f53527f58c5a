use Rattle.std.proofs.Common.{◌≡◌, map}
use Rattle.std.specs.Io.KnownBytes.{Appends}
use Rattle.lab_dump.specs.Map.{areas_below, first_in_area}
use Rattle.lab_dump.proofs.map.print_areas.Given as goal

abbrev pub invariant-loop-sector : goal.invariant-loop-sector
invariant-loop-sector g l = record {
  first_is : l.first ≡ first_in_area (map g.M.Marked.marked l.sectors) l.sector;
  printed : Appends (g.W.MapWriter.contents l.fn.out) (g.W.MapWriter.contents l.out) (areas_below l.geometry (map g.M.Marked.marked l.sectors) l.sector);
}
