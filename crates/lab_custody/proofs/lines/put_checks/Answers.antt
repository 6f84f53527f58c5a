use Rattle.lab_commands.proofs.PrintLemmas.{failed}
use Rattle.lab_custody.specs.declared.checks.Checked.{Checked}
use Rattle.lab_custody.specs.Lines.{check_text, checks_text}
use Rattle.lab_custody.proofs.LineLemmas.{checks_both, checks_one, one_put, stopped_put}
use Rattle.lab_custody.proofs.lines.put_checks.Goals as goal

pub returns-in_err-put_check : goal.returns-in_err-put_check
returns-in_err-put_check g c =
    failed _ c.from_residual.result _ _ _ _ c.from_residual.ensures.1
    (stopped_put (checks_text c.args.form) (λ (check : Checked). check_text c.args.form check.verdict check.name.now) (checks_both c.args.form) (checks_one c.args.form) _ _ c.args.checks.now c.loop-place.place _
    (g.W.Output.contents c.args.out.now) (g.W.Output.contents c.loop-place.out) (g.W.Output.contents c.put_check.new.out) c.loop-place-test.true c.loop-place.invariant c.in_err-put_check.ensures)

pub loop-place-preserved : goal.loop-place-preserved
loop-place-preserved g c =
    one_put (checks_text c.args.form) (λ (check : Checked). check_text c.args.form check.verdict check.name.now) (checks_both c.args.form) (checks_one c.args.form) c.args.checks.now c.loop-place.place _
    (g.W.Output.contents c.args.out.now) (g.W.Output.contents c.loop-place.out) (g.W.Output.contents c.put_check.new.out) c.loop-place-test.true c.loop-place.invariant c.in_ok-put_check.ensures
