use Rattle.std.proofs.Common.{ap, length, refl, ◌∙◌}
use Rattle.lab_commands.proofs.PrintLemmas.{failed}
use Rattle.lab_custody.specs.Lines.{begin_text, checks_text, verified_text}
use Rattle.lab_custody.specs.Verify.{changed_count}
use Rattle.lab_custody.proofs.LineLemmas.{all_of_three, first_of_three, second_of_three}
use Rattle.lab_custody.proofs.lines.print_checks.Goals as goal

pub returns-in_err-put : goal.returns-in_err-put
returns-in_err-put g c =
    let checks = c.args.checks.now in
    failed _ c.from_residual.result _ _ _ _ c.from_residual.ensures.1
    (first_of_three _ _ _ _ (begin_text c.args.form) (checks_text c.args.form checks) (verified_text c.args.form (length checks) (changed_count checks)) _ c.as_bytes.result.now refl (c.as_bytes.ensures.value ∙ c.begin.ensures) c.in_err-put.ensures)

pub returns-in_err-put_checks : goal.returns-in_err-put_checks
returns-in_err-put_checks g c =
    let checks = c.args.checks.now in
    failed _ c.from_residual-in_err-put_checks.result _ _ _ _ c.from_residual-in_err-put_checks.ensures.1
    (second_of_three _ _ _ _ _ (begin_text c.args.form) (checks_text c.args.form checks) (verified_text c.args.form (length checks) (changed_count checks)) _ c.as_bytes.result.now refl (c.as_bytes.ensures.value ∙ c.begin.ensures) c.in_ok-put.ensures c.in_err-put_checks.ensures)

pub returns : goal.returns
returns g c =
    let checks = c.args.checks.now in
    all_of_three _ _ _ _ _ (begin_text c.args.form) (checks_text c.args.form checks)
    (verified_text c.args.form (length checks) (changed_count checks)) _ c.as_bytes.result.now
    (verified_text c.args.form (length checks) c.args.changed) c.put_verified.result refl (c.as_bytes.ensures.value ∙ c.begin.ensures)
    (ap (verified_text c.args.form (length checks)) c.requires) c.in_ok-put.ensures c.in_ok-put_checks.ensures c.put_verified.ensures
