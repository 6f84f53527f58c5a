use Rattle.std.proofs.Common.{List, ℕ, [], ◌∷◌, ◌++◌, subst}
use Rattle.std.specs.Io.KnownBytes.{Appends}
use Rattle.std.proofs.KnownBytes.{Appends-trans}
use Rattle.request_stream.specs.Frames.{AppendsPart}
use Rattle.lab_commands.specs.Text.{line_end_words}
use Rattle.lab_commands.proofs.TextLemmas.{part_after, part_before, put_failed, puts_after}
use Rattle.lab_commands.proofs.text.put_line.Goals as goal

pub returns-in_err-put-clause-bytes : goal.returns-in_err-put-clause-bytes
returns-in_err-put-clause-bytes g c =
    let a = g.W.Output.contents c.args.out.now in
    let b = g.W.Output.contents c.put.new.self in
    let area = c.args.area.now in
    let rest = line_end_words c.args.rest in
    put_failed _ c.from_residual.result a b _ c.from_residual.ensures.1
    (part_before a b (area ++ rest) (10 ∷ []) (part_before a b area rest (subst (λ (xs : List ℕ). AppendsPart a b xs) c.as_bytes.ensures.value c.in_err-put.ensures.bytes)))

pub returns-in_err-put_rest-clause-bytes : goal.returns-in_err-put_rest-clause-bytes
returns-in_err-put_rest-clause-bytes g c =
    let a = g.W.Output.contents c.args.out.now in
    let b = g.W.Output.contents c.put.new.self in
    let d = g.W.Output.contents c.put_rest.new.out in
    let area = c.args.area.now in
    let rest = line_end_words c.args.rest in
    put_failed _ c.from_residual-in_err-put_rest.result a d _ c.from_residual-in_err-put_rest.ensures.1
    (part_before a d (area ++ rest) (10 ∷ []) (part_after a b d area rest (subst (λ (xs : List ℕ). Appends a b xs) c.as_bytes.ensures.value c.in_ok-put.ensures.bytes) c.in_err-put_rest.ensures.bytes))

pub returns-clause-bytes : goal.returns-clause-bytes
returns-clause-bytes g c =
    let a = g.W.Output.contents c.args.out.now in
    let b = g.W.Output.contents c.put.new.self in
    let d = g.W.Output.contents c.put_rest.new.out in
    let area = c.args.area.now in
    let rest = line_end_words c.args.rest in
    puts_after a d _ (area ++ rest) (10 ∷ []) c.put-2.result
    (Appends-trans a b d area rest (subst (λ (xs : List ℕ). Appends a b xs) c.as_bytes.ensures.value c.in_ok-put.ensures.bytes) c.in_ok-put_rest.ensures.bytes) c.put-2.ensures.bytes
