use Rattle.std.proofs.Common.{◌≡◌, map}
use Rattle.std.specs.Prelude.{vec_capacity}
use Rattle.program_words.specs.Met.{texts}
use Rattle.lab_commands.specs.Files.{after_opens}
use Rattle.lab_commands.proofs.MergeLemmas.{AreOpenSoFar}
use Rattle.lab_commands.proofs.origin.open_readings.Given as goal

abbrev pub invariant-loop-place : goal.invariant-loop-place
invariant-loop-place g l = record {
  so_far : AreOpenSoFar (g.F.LabFiles.answers l.fn.files) (g.F.LabFiles.answers l.files) (g.F.LabFiles.kept l.fn.files) (g.F.LabFiles.kept l.files) (texts l.paths) (map g.F.Dump.Dump.bytes l.readings.items) l.place (vec_capacity l.fn.readings) (vec_capacity l.readings);
  opens : g.F.LabFiles.opened l.files ≡ after_opens l.place (g.F.LabFiles.opened l.fn.files);
}
