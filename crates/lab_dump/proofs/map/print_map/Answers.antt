use Rattle.std.proofs.Common.{◌≡◌, ℕ, List, OnOk, length, map, sym, subst, ◌∙◌}
use Rattle.std.specs.Io.KnownBytes.{Appends}
use Rattle.std.proofs.lemmas.List.{length-map}
use Rattle.lab_dump.specs.declared.mark.MapMark.{MapMark}
use Rattle.std.proofs.lemmas.Result.{err_from_is_err_and}
use Rattle.lab_dump.specs.Map.{areas_below}
use Rattle.lab_dump.proofs.MapLemmas.{then_last}
use Rattle.lab_dump.proofs.map.print_map.Goals as goal

pub returns : goal.returns
returns g c = record {
  printed =
      let marks : List MapMark = map g.M.Marked.marked c.args.sectors.now in
      let all : length marks ≡ c.args.geometry.now.sectors = length-map c.args.sectors.now g.M.Marked.marked ∙ c.requires in
      let b = g.W.MapWriter.contents c.print_map_head.new.out in
      let d = g.W.MapWriter.contents c.print_areas.new.out in
      then_last _ _ _ _ _ c.print_areas.result c.in_ok-print_map_head.ensures.printed
      (subst (λ (n : ℕ). OnOk c.print_areas.result (Appends b d (areas_below c.args.geometry.now marks n))) (sym all) c.print_areas.ensures.printed);
  failed = c.print_areas.ensures.failed;
}

pub returns-in_err-print_map_head : goal.returns-in_err-print_map_head
returns-in_err-print_map_head g c =
    let p = err_from_is_err_and c.from_residual.result c.from_residual.ensures.1 in
    rw p.1 (record { printed = tt; failed = c.in_err-print_map_head.ensures.failed })
