use Rattle.std.proofs.Common.{◌≡◌, arith, sym, ◌∙◌, subst}
use Rattle.image_check.proofs.TablesLemmas.{AreThere, there_more, formatted_of, unformatted_of, row_none, row_some}
use Rattle.page_layout.specs.Geometry.{table_pages}
use Rattle.image_check.proofs.tables.is_formatted.Goals as goal

pub returns-then-is_none-clause-no : goal.returns-then-is_none-clause-no
returns-then-is_none-clause-no c = λ e image keys distinct.
    unformatted_of c.args.geometry.now image c.args.newest.now c.loop-page.page _ _ keys (omega arith) (omega arith)
    (sym c.row.ensures ∙ row_none c.row.result c.is_none.result c.is_none.ensures c.if-is_none.true) distinct

pub loop-page-preserved : goal.loop-page-preserved
loop-page-preserved c =
    there_more c.args.geometry.now c.args.newest.now c.loop-page.page _ _ c.loop-page.invariant (omega arith) (omega arith) (λ e. row_some c.row.result c.is_none.result c.is_none.ensures c.if-is_none.false (c.row.ensures ∙ e))

pub returns-clause-yes : goal.returns-clause-yes
returns-clause-yes c = λ e image keys u l.
    let whole : c.loop-page.page ≡ table_pages c.args.geometry.now = omega arith in
    formatted_of c.args.geometry.now image c.args.newest.now u (subst (λ n. AreThere c.args.geometry.now c.args.newest.now n) whole c.loop-page.invariant) keys l
