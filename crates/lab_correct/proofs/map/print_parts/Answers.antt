use Rattle.std.proofs.Common.{◌≡◌, ℕ, length, subst, arith}
use Rattle.std.specs.Io.KnownBytes.{Appends}
use Rattle.page_layout.specs.Geometry.{page_bytes}
use Rattle.lab_correct.specs.Map.{parts_below}
use Rattle.lab_correct.proofs.MapLemmas.{parts_none, parts_then}
use Rattle.lab_correct.proofs.map.print_parts.Goals as goal

pub loop-i-init : goal.loop-i-init
loop-i-init g c = parts_none (page_bytes c.args.geometry.now) c.args.losses.now (g.W.MapWriter.contents c.args.out.now)

pub loop-i-preserved : goal.loop-i-preserved
loop-i-preserved g c =
    parts_then (page_bytes c.args.geometry.now) c.args.losses.now c.loop-i.i _ _ (g.W.MapWriter.contents c.args.out.now)
    (g.W.MapWriter.contents c.loop-i.out) (g.W.MapWriter.contents c.print_loss.new.out) c.next_row.ensures.is c.row_at.ensures.is
    c.loop-i.invariant c.in_ok-print_loss.ensures.printed

pub returns-clause-printed : goal.returns-clause-printed
returns-clause-printed g c =
    let all : c.loop-i.i ≡ length c.args.losses.now = omega arith in
    subst (λ (k : ℕ). Appends (g.W.MapWriter.contents c.args.out.now) (g.W.MapWriter.contents c.loop-i.out) (parts_below (page_bytes c.args.geometry.now) c.args.losses.now k)) all c.loop-i.invariant
