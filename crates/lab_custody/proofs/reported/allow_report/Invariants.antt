use Rattle.std.proofs.Common.{◌≡◌}
use Rattle.program_words.specs.Met.{texts}
use Rattle.lab_commands.specs.declared.files.Standing.TheVariants as standing
use Rattle.lab_custody.specs.Reported.{AreOtherFilesBelow}
use Rattle.lab_custody.proofs.reported.allow_report.Given as goal

abbrev pub invariant-loop-place : goal.invariant-loop-place
invariant-loop-place g l = record {
  same : l.files ≡ l.fn.files;
  free : (g.F.LabFiles.answers l.fn.files).says l.words.file.now standing.Nothing;
  others : AreOtherFilesBelow (g.F.LabFiles.answers l.fn.files) l.words.file.now (texts l.words.wrote.items) l.place;
}
