use Rattle.std.proofs.Common.{◌≡◌}
use Rattle.program_words.specs.Met.{texts}
use Rattle.lab_commands.specs.Merge.{AreOthersBelow}
use Rattle.lab_commands.proofs.merge.is_some_dump.Given as goal

abbrev pub invariant-loop-place : goal.invariant-loop-place
invariant-loop-place g l = record {
  same : l.files ≡ l.fn.files;
  others : AreOthersBelow (g.F.LabFiles.answers l.fn.files) (texts l.dumps) l.path l.place;
}
