use Rattle.std.proofs.Common.{map}
use Rattle.commands.specs.Files.{written_file}
use Rattle.command_tests.specs.declared.tests.files.MemoryFile.{MemoryFile}
use Rattle.command_tests.proofs.FileLemmas.{LacksBelow}
use Rattle.command_tests.proofs.tests.files.given_bytes.Given as goal

abbrev pub invariant-loop-file : goal.invariant-loop-file
invariant-loop-file l = LacksBelow (map (λ (f : MemoryFile). written_file f.path.now f.bytes.items) l.files) l.path l.file-index
