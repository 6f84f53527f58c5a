use Rattle.std.proofs.Common.{◌≡◌, ◌/◌, length, ap, ◌∙◌, sym, arith}
use Rattle.std.proofs.lemmas.Grind.{common_steps}
use Rattle.bad_blocks.proofs.PageLemmas.{page_not_wrong}
use Rattle.bad_blocks.proofs.table.page.read_table_page.Goals as goal

pub returns-in_err-judge-clause-only : goal.returns-in_err-judge-clause-only
returns-in_err-judge-clause-only c = λ rows n counted same.
    let m : length rows ≡ c.len.result = n ∙ (ap length (sym c.table.view_is) ∙ grind (arith, common_steps)) in
    absurd (page_not_wrong (length c.args.page.now / 4) c.len.result c.args.u rows c.args.page.now c.in_err-judge.field-0.0 m counted same c.in_err-judge.ensures.err)
