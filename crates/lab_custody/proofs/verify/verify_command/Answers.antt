use Rattle.std.proofs.Common.{◌≡◌, ◌<◌, ◌∙◌, List, ℕ, ap, inr, refl, subst, arith}
use Rattle.std.specs.Io.KnownBytes.{Appends}
use Rattle.request_stream.specs.Frames.{AppendsPart}
use Rattle.lab_report.specs.Note.{told_by_report}
use Rattle.lab_custody.specs.Verify.{changed_count}
use Rattle.lab_custody.specs.Verified.{form_of_verify}
use Rattle.lab_custody.proofs.CheckLemmas.{due_is, has_verified}
use Rattle.lab_custody.proofs.verify.verify_command.Goals as goal

pub returns-in-Err-clause-fault : goal.returns-in-Err-clause-fault
returns-in-Err-clause-fault g c =
    let checks = c.check_all.new.room.checks.items in
    let due = due_is c.form.result (form_of_verify c.args.words) c.deref-2.result.now checks c.form.ensures c.deref-2.ensures.value in
    inr (
      checks,
      has_verified _ (g.F.LabFiles.answers c.load_report.new.files) c.args.words (told_by_report c.in_ok-report.report) checks c.in_ok-report.ensures.ok c.in_ok-report.ensures.no_more c.check_all.ensures.checked,
      (refl, c.in-Err.ensures.0, subst (λ (t : List ℕ). AppendsPart (g.W.Output.contents c.args.out.now) (g.W.Output.contents c.print_checks.new.out) t) due c.in-Err.ensures.1),
    )

pub returns-then-changed-gt0-clause-fault : goal.returns-then-changed-gt0-clause-fault
returns-then-changed-gt0-clause-fault g c =
    let checks = c.check_all.new.room.checks.items in
    let due = due_is c.form.result (form_of_verify c.args.words) c.deref-2.result.now checks c.form.ensures c.deref-2.ensures.value in
    let counted : c.changed_count-changed.result ≡ changed_count checks = c.changed_count-changed.ensures ∙ ap changed_count c.deref.ensures.value in
    let some : 0 < changed_count checks = omega arith in
    inr (
      checks,
      has_verified _ (g.F.LabFiles.answers c.load_report.new.files) c.args.words (told_by_report c.in_ok-report.report) checks c.in_ok-report.ensures.ok c.in_ok-report.ensures.no_more c.check_all.ensures.checked,
      (some, subst (λ (t : List ℕ). Appends (g.W.Output.contents c.args.out.now) (g.W.Output.contents c.print_checks.new.out) t) due c.in-Ok.ensures),
    )

pub returns-clause-ok : goal.returns-clause-ok
returns-clause-ok g c =
    let checks = c.check_all.new.room.checks.items in
    let due = due_is c.form.result (form_of_verify c.args.words) c.deref-2.result.now checks c.form.ensures c.deref-2.ensures.value in
    let counted : c.changed_count-changed.result ≡ changed_count checks = c.changed_count-changed.ensures ∙ ap changed_count c.deref.ensures.value in
    let none : changed_count checks ≡ 0 = omega arith in
    record {
      checks = checks;
      has = has_verified _ (g.F.LabFiles.answers c.load_report.new.files) c.args.words (told_by_report c.in_ok-report.report) checks c.in_ok-report.ensures.ok c.in_ok-report.ensures.no_more c.check_all.ensures.checked;
      same = none;
      told = subst (λ (t : List ℕ). Appends (g.W.Output.contents c.args.out.now) (g.W.Output.contents c.print_checks.new.out) t) due c.in-Ok.ensures;
    }
