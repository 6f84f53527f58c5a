use Rattle.std.proofs.Common.{subst, arith}
use Rattle.std.specs.Io.KnownBytes.{Appends}
use Rattle.std.proofs.KnownBytes.{Appends-nil}
use Rattle.lab_commands.specs.declared.parts.Part.{Part}
use Rattle.lab_commands.specs.Document.{StopsPrinting}
use Rattle.lab_commands.specs.Pieces.{part_text}
use Rattle.lab_commands.proofs.PieceLemmas.{one_put, stopped_put}
use Rattle.lab_commands.proofs.PrintLemmas.{failed}
use Rattle.lab_commands.proofs.parts.print_parts.Goals as goal

pub loop-place-init : goal.loop-place-init
loop-place-init g c = Appends-nil (g.W.Output.contents c.args.out.now)

pub loop-place-preserved : goal.loop-place-preserved
loop-place-preserved g c =
    let o = g.W.Output.contents in
    let text = part_text c.args.printer.form in
    one_put text c.args.parts.now c.loop-place.place c.index-parts-place.result (o c.args.out.now) (o c.loop-place.out) (o c.print_part.new.out) (omega arith) c.loop-place.invariant
    (subst (λ (p : Part). Appends (o c.loop-place.out) (o c.print_part.new.out) (part_text c.args.printer.form p)) c.index-parts-place.is c.in_ok-print_part.ensures)

pub returns-in_err-print_part : goal.returns-in_err-print_part
returns-in_err-print_part g c =
    let o = g.W.Output.contents in
    let text = part_text c.args.printer.form in
    let e = c.in_err-print_part.field-0.0 in
    let broke = g.W.Output.failed c.print_part.new.out in
    failed e c.from_residual.result broke (o c.args.out.now) (o c.print_part.new.out) _ c.from_residual.ensures.1
    (stopped_put text e broke c.args.parts.now c.loop-place.place c.index-parts-place.result (o c.args.out.now) (o c.loop-place.out) (o c.print_part.new.out) (omega arith) c.loop-place.invariant
    (subst (λ (p : Part). StopsPrinting e broke (o c.loop-place.out) (o c.print_part.new.out) (part_text c.args.printer.form p)) c.index-parts-place.is c.in_err-print_part.ensures))
