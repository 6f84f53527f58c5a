use Rattle.std.proofs.Common.{sym, ap, ◌∙◌}
use Rattle.lab_commands.specs.declared.document.ReportForm.TheVariants.{Json}
use Rattle.lab_custody.specs.Lines.{front_text}
use Rattle.lab_custody.proofs.lines.front.Goals as goal

pub returns-in-Json-Same : goal.returns-in-Json-Same
returns-in-Json-Same c = sym (ap (λ form. front_text form c.args.verdict) c.in-Json-Same.is-0 ∙ ap (front_text Json) c.in-Json-Same.is-1)

pub returns-in-Json-Differs : goal.returns-in-Json-Differs
returns-in-Json-Differs c = sym (ap (λ form. front_text form c.args.verdict) c.in-Json-Differs.is-0 ∙ ap (front_text Json) c.in-Json-Differs.is-1)

pub returns-in-Json-Missing : goal.returns-in-Json-Missing
returns-in-Json-Missing c = sym (ap (λ form. front_text form c.args.verdict) c.in-Json-Missing.is-0 ∙ ap (front_text Json) c.in-Json-Missing.is-1)

pub returns-in-Json-Unread : goal.returns-in-Json-Unread
returns-in-Json-Unread c = sym (ap (λ form. front_text form c.args.verdict) c.in-Json-Unread.is-0 ∙ ap (front_text Json) c.in-Json-Unread.is-1)
