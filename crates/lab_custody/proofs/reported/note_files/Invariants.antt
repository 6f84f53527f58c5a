use Rattle.std.proofs.Common.{◌≡◌, length, map, take}
use Rattle.std.specs.Prelude.{vec_capacity}
use Rattle.program_words.specs.Met.{texts}
use Rattle.lab_commands.specs.Files.{AnswersNoMore, after_opens}
use Rattle.lab_report.specs.Note.{noted_of}
use Rattle.lab_custody.specs.Reported.{AreNoted}
use Rattle.lab_custody.proofs.reported.note_files.Given as goal

abbrev pub invariant-loop-place : goal.invariant-loop-place
invariant-loop-place g l = record {
  no_more : AnswersNoMore (g.F.LabFiles.answers l.fn.files) (g.F.LabFiles.answers l.files);
  kept : g.F.LabFiles.kept l.files ≡ g.F.LabFiles.kept l.fn.files;
  noted : AreNoted (g.F.LabFiles.answers l.fn.files) (g.F.LabFiles.kept l.fn.files) (texts (take l.place l.paths)) (map noted_of l.notes.items);
  opens : g.F.LabFiles.opened l.files ≡ after_opens l.place (g.F.LabFiles.opened l.fn.files);
  count : length l.notes.items ≡ l.place;
  room : vec_capacity l.notes ≡ vec_capacity l.fn.notes;
  size : length l.buffer ≡ length l.fn.buffer;
}
