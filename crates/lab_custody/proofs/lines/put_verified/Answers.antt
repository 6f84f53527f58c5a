use Rattle.std.proofs.Common.{List, ℕ, ap, sym, subst, ◌∙◌}
use Rattle.lab_commands.specs.Document.{Prints}
use Rattle.lab_custody.specs.Lines.{verified_text}
use Rattle.lab_custody.proofs.LineLemmas.{verified_flat, verified_object}
use Rattle.lab_custody.proofs.lines.put_verified.Goals as goal

pub returns-in-Text : goal.returns-in-Text
returns-in-Text g c =
    subst (λ (t : List ℕ). Prints (g.W.Output.failed c.put_pieces.new.out) (g.W.Output.contents c.args.out.now) (g.W.Output.contents c.put_pieces.new.out) t c.put_pieces.result)
    (verified_flat c.args.files c.args.changed ∙ ap (λ form. verified_text form c.args.files c.args.changed) (sym c.in-Text.is)) c.put_pieces.ensures

pub returns-in-Json : goal.returns-in-Json
returns-in-Json g c =
    subst (λ (t : List ℕ). Prints (g.W.Output.failed c.put_pieces-in-Json.new.out) (g.W.Output.contents c.args.out.now) (g.W.Output.contents c.put_pieces-in-Json.new.out) t c.put_pieces-in-Json.result)
    (verified_object c.args.files c.args.changed ∙ ap (λ form. verified_text form c.args.files c.args.changed) (sym c.in-Json.is)) c.put_pieces-in-Json.ensures
