use Rattle.std.proofs.Common.{List, map, subst}
use Rattle.lab_report.specs.declared.note.FileNote.{FileNote}
use Rattle.lab_report.specs.Note.{note_of, told_by_report}
use Rattle.lab_custody.specs.Verify.{AreChecked}
use Rattle.lab_custody.proofs.CheckLemmas.{all_checked}
use Rattle.lab_custody.proofs.verify.check_all.Goals as goal

pub returns-clause-checked : goal.returns-clause-checked
returns-clause-checked g c =
    let a = g.F.LabFiles.answers c.args.files.now in
    let b = g.F.LabFiles.answers c.check_files.new.files in
    let none = c.args.room.now.checks.items in
    let between = c.check_files.new.checks.items in
    let checks = c.check_files-2.new.checks.items in
    all_checked a b (told_by_report c.args.report.now) none between checks c.requires.none c.check_files.ensures.no_more
    (subst (λ (notes : List FileNote). AreChecked a (map note_of notes) none between) c.deref.ensures.value c.check_files.ensures.checked)
    (subst (λ (notes : List FileNote). AreChecked b (map note_of notes) between checks) c.deref-2.ensures.value c.check_files-2.ensures.checked)
