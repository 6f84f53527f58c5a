use Rattle.std.proofs.Common.{◌≡◌, map, take}
use Rattle.std.specs.Prelude.{vec_capacity, length, ◌+◌}
use Rattle.lab_commands.specs.Files.{AnswersNoMore}
use Rattle.lab_report.specs.Note.{note_of}
use Rattle.lab_custody.specs.Verify.{AreChecked}
use Rattle.lab_custody.proofs.checks.check_files.Given as goal

abbrev pub invariant-loop-note : goal.invariant-loop-note
invariant-loop-note g l = record {
  no_more : AnswersNoMore (g.F.LabFiles.answers l.fn.files) (g.F.LabFiles.answers l.files);
  kept : g.F.LabFiles.kept l.files ≡ g.F.LabFiles.kept l.fn.files;
  checked : AreChecked (g.F.LabFiles.answers l.fn.files) (map note_of (take l.note-index l.notes)) l.fn.checks.items l.checks.items;
  count : length l.checks.items ≡ length l.fn.checks.items + l.note-index;
  room : vec_capacity l.checks ≡ vec_capacity l.fn.checks;
  size : length l.buffer ≡ length l.fn.buffer;
}
