use Rattle.std.proofs.Common.{IfSome, map}
use Rattle.std.specs.Prelude.{string_bytes}
use Rattle.command_tests.specs.declared.tests.files.StoredFile.{StoredFile}
use Rattle.commands.specs.Files.{Stored}
use Rattle.command_tests.specs.Files.{HasFile}
use Rattle.command_tests.proofs.tests.files.stored_bytes.Given as goal

abbrev stored_as : StoredFile → Stored
stored_as s = record { path = string_bytes s.path; bytes = s.bytes.items; done = s.done }

abbrev pub invariant-loop-file : goal.invariant-loop-file
invariant-loop-file l = IfSome l.last (λ found. HasFile (map stored_as l.stored) l.path found.now)
