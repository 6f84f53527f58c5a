use Rattle.std.proofs.Common.{◌∙◌, arith}
use Rattle.program_words.specs.Met.{texts}
use Rattle.lab_custody.specs.Reported.{MayNotReport}
use Rattle.lab_custody.proofs.ReportLemmas.{handed_on, others_more, unasked_in, written_at}
use Rattle.lab_custody.proofs.reported.allow_report.Goals as goal

pub loop-place-preserved : goal.loop-place-preserved
loop-place-preserved g c =
    let inv = c.loop-place.invariant in
    record {
      same = c.is_report.ensures.same ∙ inv.same;
      free = inv.free;
      others = others_more g.F.LabFiles.answers c.args.files.now c.loop-place.files c.args.words.now.wrote.items c.loop-place.place c.index.result.now c.args.words.now.file.now c.in_ok-is_report.field-0 inv.same (omega (arith, c.len-place-end.ensures)) c.index.ensures
          c.if-branch.false c.in_ok-is_report.ensures.said inv.others;
    }

pub returns-in_err-is_report-clause-fault : goal.returns-in_err-is_report-clause-fault
returns-in_err-is_report-clause-fault g c =
    let answers = g.F.LabFiles.answers in
    let inv = c.loop-place.invariant in
    let words = c.args.words.now in
    handed_on (MayNotReport (answers c.args.files.now) words.file.now (texts words.wrote.items)) _ _ c.from_residual.ensures.1
    (unasked_in answers c.args.files.now c.loop-place.files words.wrote.items c.loop-place.place c.index.result.now words.file.now _ inv.same (omega (arith, c.len-place-end.ensures)) c.index.ensures inv.free inv.others
    c.in_err-is_report.ensures.fault)

pub returns-then-branch-clause-fault : goal.returns-then-branch-clause-fault
returns-then-branch-clause-fault g c =
    let inv = c.loop-place.invariant in
    let words = c.args.words.now in (
      inv.free,
      written_at g.F.LabFiles.answers c.args.files.now c.loop-place.files words.wrote.items c.loop-place.place c.index.result.now words.file.now c.in_ok-is_report.field-0 inv.same (omega (arith, c.len-place-end.ensures)) c.index.ensures
          c.if-branch.true c.in_ok-is_report.ensures.said inv.others,
    )
