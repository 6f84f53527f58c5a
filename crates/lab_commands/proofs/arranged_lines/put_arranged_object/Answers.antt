use Rattle.std.proofs.Common.{◌++◌, List, ℕ, subst}
use Rattle.std.specs.Prelude.{codes}
use Rattle.lab_shapes.specs.Words.{arrangement_words}
use Rattle.lab_commands.specs.Document.{Prints}
use Rattle.lab_commands.specs.Values.{arranged_rest}
use Rattle.lab_commands.proofs.ArrangedLemmas.{arranged_json}
use Rattle.lab_commands.proofs.PrintLemmas.{failed, prints_after, stops_after, stops_more}
use Rattle.lab_commands.proofs.arranged_lines.put_arranged_object.Goals as goal

pub returns-in_err-put : goal.returns-in_err-put
returns-in_err-put g c =
    let a = g.W.Output.contents c.args.out.now in
    let b = g.W.Output.contents c.put.new.out in
    let broke = g.W.Output.failed c.put.new.out in
    let found = c.args.found.now in
    subst (λ (t : List ℕ). Prints broke a b t c.from_residual.result) (arranged_json found)
    (failed c.in_err-put.field-0.0 c.from_residual.result broke a b _ c.from_residual.ensures.1
    (stops_more c.in_err-put.field-0.0 broke a b (codes "{\"arrange\":\"") (arrangement_words found.arrangement ++ arranged_rest found.fit) c.in_err-put.ensures))

pub returns-in_err-put_arrangement : goal.returns-in_err-put_arrangement
returns-in_err-put_arrangement g c =
    let a = g.W.Output.contents c.args.out.now in
    let b = g.W.Output.contents c.put.new.out in
    let d = g.W.Output.contents c.put_arrangement.new.out in
    let broke = g.W.Output.failed c.put_arrangement.new.out in
    let found = c.args.found.now in
    let fault = c.in_err-put_arrangement.field-0.0 in
    subst (λ (t : List ℕ). Prints broke a d t c.from_residual-in_err-put_arrangement.result) (arranged_json found)
    (failed fault c.from_residual-in_err-put_arrangement.result broke a d _ c.from_residual-in_err-put_arrangement.ensures.1
    (stops_after fault broke a b d (codes "{\"arrange\":\"") (arrangement_words found.arrangement ++ arranged_rest found.fit) c.in_ok-put.ensures
    (stops_more fault broke b d (arrangement_words found.arrangement) (arranged_rest found.fit) c.in_err-put_arrangement.ensures)))

pub returns : goal.returns
returns g c =
    let a = g.W.Output.contents c.args.out.now in
    let b = g.W.Output.contents c.put.new.out in
    let d = g.W.Output.contents c.put_arrangement.new.out in
    let e = g.W.Output.contents c.put_rest.new.out in
    let broke = g.W.Output.failed c.put_rest.new.out in
    let found = c.args.found.now in
    subst (λ (t : List ℕ). Prints broke a e t c.put_rest.result) (arranged_json found)
    (prints_after broke a b e (codes "{\"arrange\":\"") (arrangement_words found.arrangement ++ arranged_rest found.fit) c.put_rest.result c.in_ok-put.ensures
    (prints_after broke b d e (arrangement_words found.arrangement) (arranged_rest found.fit) c.put_rest.result c.in_ok-put_arrangement.ensures c.put_rest.ensures))
