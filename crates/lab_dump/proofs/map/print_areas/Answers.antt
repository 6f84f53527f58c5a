use Rattle.std.proofs.Common.{◌≡◌, ◌<◌, ℕ, map, sym, subst, arith}
use Rattle.std.specs.Io.KnownBytes.{Appends}
use Rattle.std.proofs.KnownBytes.{Appends-trans}
use Rattle.std.proofs.lemmas.Result.{err_from_is_err_and}
use Rattle.lab_dump.specs.Map.{area_line, areas_below}
use Rattle.lab_dump.proofs.MapLemmas.{below_more, below_none, first_zero}
use Rattle.lab_dump.proofs.map.print_areas.Goals as goal

pub loop-sector-init : goal.loop-sector-init
loop-sector-init g c =
    let marks = map g.M.Marked.marked c.args.sectors.now in
    record { first_is = sym (first_zero marks); printed = below_none c.args.geometry.now marks (g.W.MapWriter.contents c.args.out.now) }

pub loop-sector-preserved : goal.loop-sector-preserved
loop-sector-preserved g c =
    let marks = map g.M.Marked.marked c.args.sectors.now in
    let a = g.W.MapWriter.contents c.args.out.now in
    let d = g.W.MapWriter.contents c.print_end.new.out in
    record {
      first_is = c.in_ok-first.ensures.next;
      printed = subst (λ t. Appends a d t) (below_more c.args.geometry.now marks c.loop-sector.sector)
          (Appends-trans a (g.W.MapWriter.contents c.loop-sector.out) d (areas_below c.args.geometry.now marks c.loop-sector.sector)
          (area_line c.args.geometry.now marks c.loop-sector.sector) c.loop-sector.invariant.printed c.in_ok-first.ensures.printed);
    }

pub returns : goal.returns
returns g c = record {
  printed =
      let marks = map g.M.Marked.marked c.args.sectors.now in
      let all : c.loop-sector.sector ≡ c.args.geometry.now.sectors = omega arith in
      subst (λ (k : ℕ). Appends (g.W.MapWriter.contents c.args.out.now) (g.W.MapWriter.contents c.loop-sector.out) (areas_below c.args.geometry.now marks k)) all c.loop-sector.invariant.printed;
  failed = tt;
}

pub print_end-requires : goal.print_end-requires
print_end-requires g c = record { sized = c.requires; within = subst (λ n. c.loop-sector.sector < n) c.sectors-sector-end.ensures c.loop-sector-test.true; first = c.loop-sector.invariant.first_is }

pub returns-in_err-first : goal.returns-in_err-first
returns-in_err-first g c =
    let p = err_from_is_err_and c.from_residual.result c.from_residual.ensures.1 in
    rw p.1 (record { printed = tt; failed = c.in_err-first.ensures.failed })
