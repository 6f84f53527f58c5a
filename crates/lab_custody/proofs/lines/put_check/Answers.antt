use Rattle.std.proofs.Common.{◌∙◌}
use Rattle.lab_commands.proofs.PrintLemmas.{failed}
use Rattle.lab_custody.specs.Lines.{end_text, front_text, name_text}
use Rattle.lab_custody.proofs.LineLemmas.{all_of_three, first_of_three, parts_of_line, second_of_three}
use Rattle.lab_custody.proofs.lines.put_check.Goals as goal

pub returns-in_err-put : goal.returns-in_err-put
returns-in_err-put g c =
    let check = c.args.check.now in
    failed _ c.from_residual.result _ _ _ _ c.from_residual.ensures.1
    (first_of_three _ _ _ _ (front_text c.args.form check.verdict) (name_text c.args.form check.name.now) (end_text c.args.form) _ c.as_bytes.result.now (parts_of_line c.args.form check.verdict check.name.now) (c.as_bytes.ensures.value ∙ c.front.ensures) c.in_err-put.ensures)

pub returns-in_err-put_named : goal.returns-in_err-put_named
returns-in_err-put_named g c =
    let check = c.args.check.now in
    failed _ c.from_residual-in_err-put_named.result _ _ _ _ c.from_residual-in_err-put_named.ensures.1
    (second_of_three _ _ _ _ _ (front_text c.args.form check.verdict) (name_text c.args.form check.name.now) (end_text c.args.form) _ c.as_bytes.result.now (parts_of_line c.args.form check.verdict check.name.now) (c.as_bytes.ensures.value ∙ c.front.ensures)
    c.in_ok-put.ensures c.in_err-put_named.ensures)

pub returns : goal.returns
returns g c =
    let check = c.args.check.now in
    all_of_three _ _ _ _ _ (front_text c.args.form check.verdict) (name_text c.args.form check.name.now) (end_text c.args.form) _ c.as_bytes.result.now c.as_bytes-2.result.now c.put-2.result
    (parts_of_line c.args.form check.verdict check.name.now) (c.as_bytes.ensures.value ∙ c.front.ensures) (c.as_bytes-2.ensures.value ∙ c.end.ensures) c.in_ok-put.ensures c.in_ok-put_named.ensures c.put-2.ensures
