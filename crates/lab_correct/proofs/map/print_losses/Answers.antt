use Rattle.std.proofs.Common.{◌∙◌, OnOk, subst}
use Rattle.std.specs.Io.KnownBytes.{Appends}
use Rattle.page_layout.specs.Geometry.{page_bytes}
use Rattle.lab_dump.proofs.MapLemmas.{then_last}
use Rattle.lab_correct.proofs.MapLemmas.{part_is}
use Rattle.lab_correct.proofs.map.print_losses.Goals as goal

pub returns-clause-printed : goal.returns-clause-printed
returns-clause-printed g c =
    let r = c.print_part.result in
    let b = g.W.MapWriter.contents c.print_parts.new.out in
    let d = g.W.MapWriter.contents c.print_part.new.out in
    then_last _ _ _ _ _ r c.in_ok-print_map_head.ensures.printed
    (then_last _ _ _ _ _ r c.in_ok-print_parts.ensures.printed
    (subst (λ t. OnOk r (Appends b d t)) (part_is (page_bytes c.args.geometry.now) _ _ _ _ c.next_row-next.ensures.is (c.from.ensures ∙ c.rows.ensures)) c.print_part.ensures.printed))
