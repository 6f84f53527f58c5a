use Rattle.std.proofs.Common.{Err, ap, ◌∙◌}
use Rattle.lab_custody.proofs.CheckLemmas.{opens_none}
use Rattle.lab_custody.proofs.verify.load_report.Goals as goal

pub returns-in-Err-NotReport-clause-fault : goal.returns-in-Err-NotReport-clause-fault
returns-in-Err-NotReport-clause-fault g c =
    opens_none (g.F.LabFiles.answers c.args.files.now) c.args.path.now c.in-Ok.bytes.items c.deref.result.now c.in-Ok.ensures.bytes c.deref.ensures.value
    (c.read_report.ensures.none (c.in-Err-NotReport.is ∙ ap Err c.in-Err-NotReport.field-0-is))
