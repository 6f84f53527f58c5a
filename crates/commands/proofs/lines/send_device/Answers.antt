use Rattle.std.proofs.Common.{[], ◌∷◌, ◌++◌, ℕ, List, ap, sym, subst, ◌∙◌}
use Rattle.request_stream.specs.Frames.{SendsLine}
use Rattle.commands.specs.Text.{device_words}
use Rattle.commands.proofs.SaidLemmas.{counts_line, device_plain}
use Rattle.commands.proofs.lines.send_device.Goals as goal

pub returns-in_default : goal.returns-in_default
returns-in_default g c =
    let P : List ℕ → Type 0 = λ line. SendsLine (g.W.Write.contents c.args.out.now) (g.W.Write.contents c.send_line.new.out) line c.send_line.result in
    let end = c.args.more.now ++ (c.args.last.now ++ (10 ∷ [])) in
    subst P (ap (λ (name : List ℕ). c.args.area.now ++ (name ++ end)) (c.device_text.ensures ∙ device_plain c.args.refused c.in_default.not-ReadOnly)) c.send_line.ensures

pub returns : goal.returns
returns g c =
    let P : List ℕ → Type 0 = λ line. SendsLine (g.W.Write.contents c.args.out.now) (g.W.Write.contents c.send_counts.new.out) line c.send_counts.result in
    let end = c.args.more.now ++ (c.args.last.now ++ (10 ∷ [])) in
    subst P (counts_line c.in-ReadOnly.good c.in-ReadOnly.need c.in-ReadOnly.failed c.args.area.now _ _ _ end c.format.ensures.text c.format-2.ensures.text c.format-3.ensures.text
    ∙ ap (λ refused. c.args.area.now ++ (device_words refused ++ end)) (sym c.in-ReadOnly.is)) c.send_counts.ensures
