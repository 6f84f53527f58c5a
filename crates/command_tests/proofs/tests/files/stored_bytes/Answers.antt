use Rattle.std.proofs.Common.{IfSome, Option, Bor, List, ℕ, map, nat_eq, sym, subst, ap, ◌∙◌}
use Rattle.std.specs.Prelude.{string_bytes}
use lib.Pointwise.{pointwise}
use Rattle.command_tests.specs.declared.tests.files.StoredFile.{StoredFile}
use Rattle.commands.specs.Files.{Stored}
use Rattle.command_tests.specs.Files.{HasFile}
use Rattle.command_tests.proofs.FileLemmas.{found_at}
use Rattle.command_tests.proofs.tests.files.stored_bytes.Goals as goal
use Rattle.command_tests.proofs.tests.files.stored_bytes.Goals.{then-file+then-eq, else-file}

abbrev stored_as : StoredFile → Stored
stored_as s = record { path = string_bytes s.path; bytes = s.bytes.items; done = s.done }

pub loop-file-preserved : goal.loop-file-preserved
loop-file-preserved c =
    let P : Option (Bor (List ℕ)) → Type 0 = λ last. IfSome last (λ found. HasFile (map stored_as c.args.stored.now) c.args.path.now found.now) in
    elim c.if-file.branch [
      | then-file+then-eq w ↦
          subst P (sym w.last-is)
          (found_at stored_as c.args.stored.now c.loop-file.file-index c.file-item.result c.args.path.now _ w.eq.result c.loop-file-test.true c.file-item.is
          (w.eq.ensures ∙ ap (λ text. pointwise nat_eq text c.args.path.now) w.as_str.ensures.value) w.if-eq.true w.if-file.true w.as_slice.ensures.value)
      | else-file w ↦ subst P (sym w.last-is) c.loop-file.invariant
    ]
