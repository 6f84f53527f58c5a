use Rattle.std.proofs.Common.{◌++◌, Bool, List, ℕ, subst}
use Rattle.std.specs.Prelude.{◌||◌, is_some}
use Rattle.lab_shapes.specs.Words.{arrangement_words, around_words, cut_words, byte_order_words}
use Rattle.lab_commands.specs.Document.{Prints, StopsPrinting}
use Rattle.lab_commands.proofs.PrintLemmas.{failed, prints_after, stops_after, stops_more}
use Rattle.lab_commands.proofs.arranged_lines.put_arrangement.Goals as goal

pub returns-in_err-put_around : goal.returns-in_err-put_around
unfolding arrangement_words
returns-in_err-put_around g c = failed _ c.from_residual.result _ _ _ _ c.from_residual.ensures.1 (stops_more _ _ _ _ _ _ c.in_err-put_around.ensures)

pub returns-in_err-put_cut : goal.returns-in_err-put_cut
unfolding arrangement_words
returns-in_err-put_cut g c =
    let a = g.W.Output.contents c.args.out.now in
    let b = g.W.Output.contents c.put_around.new.out in
    let d = g.W.Output.contents c.put_cut.new.out in
    let broke = g.W.Output.failed c.put_cut.new.out in
    let told = c.args.arrangement.now in
    let front : List ℕ = around_words told.header told.tail in
    let rest : List ℕ = byte_order_words (is_some told.header || is_some told.tail || is_some told.cut) told in
    let fault = c.in_err-put_cut.field-0.0 in
    failed fault c.from_residual-in_err-put_cut.result broke a d _ c.from_residual-in_err-put_cut.ensures.1
    (subst (λ (x : Bool). StopsPrinting fault broke a d (front ++ (cut_words x told.cut ++ rest))) c.has_around.ensures
    (stops_after fault broke a b d front (cut_words c.has_around.result told.cut ++ rest) c.in_ok-put_around.ensures
    (stops_more fault broke b d (cut_words c.has_around.result told.cut) rest c.in_err-put_cut.ensures)))

pub returns : goal.returns
unfolding arrangement_words
returns g c =
    let a = g.W.Output.contents c.args.out.now in
    let b = g.W.Output.contents c.put_around.new.out in
    let d = g.W.Output.contents c.put_cut.new.out in
    let e = g.W.Output.contents c.put_order.new.out in
    let broke = g.W.Output.failed c.put_order.new.out in
    let told = c.args.arrangement.now in
    let front : List ℕ = around_words told.header told.tail in
    let rest : List ℕ = byte_order_words (is_some told.header || is_some told.tail || is_some told.cut) told in
    subst (λ (x : Bool). Prints broke a e (front ++ (cut_words x told.cut ++ rest)) c.put_order.result) c.has_around.ensures
    (subst (λ (y : Bool). Prints broke a e (front ++ (cut_words c.has_around.result told.cut ++ byte_order_words y told)) c.put_order.result) c.has_outer.ensures
    (prints_after broke a b e front (cut_words c.has_around.result told.cut ++ byte_order_words c.has_outer.result told) c.put_order.result c.in_ok-put_around.ensures
    (prints_after broke b d e (cut_words c.has_around.result told.cut) (byte_order_words c.has_outer.result told) c.put_order.result c.in_ok-put_cut.ensures c.put_order.ensures)))
