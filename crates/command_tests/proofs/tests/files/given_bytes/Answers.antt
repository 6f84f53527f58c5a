use Rattle.std.proofs.Common.{refl, arith}
use Rattle.commands.specs.Files.{Stored, written_file}
use Rattle.command_tests.specs.declared.tests.files.MemoryFile.{MemoryFile}
use Rattle.command_tests.proofs.FileLemmas.{found_at, lacks_all, lacks_more}
use Rattle.command_tests.proofs.tests.files.given_bytes.Goals as goal

abbrev given : MemoryFile → Stored
given f = written_file f.path.now f.bytes.items

pub loop-file-init : goal.loop-file-init
loop-file-init c = λ at file below is same. absurd (omega (arith, below))

pub returns-then-eq-clause-some : goal.returns-then-eq-clause-some
returns-then-eq-clause-some c =
    found_at given c.args.files.now c.loop-file.file-index c.file-item.result c.args.path.now _ c.eq.result c.loop-file-test.true c.file-item.is c.eq.ensures c.if-eq.true refl c.as_slice.ensures.value

pub loop-file-preserved : goal.loop-file-preserved
loop-file-preserved c =
    lacks_more given c.args.files.now c.loop-file.file-index c.file-item.result c.args.path.now c.eq.result c.loop-file-test.true c.file-item.is c.eq.ensures c.if-eq.false c.loop-file.invariant

pub returns-clause-none : goal.returns-clause-none
returns-clause-none c = lacks_all given c.args.files.now c.loop-file.file-index c.args.path.now c.loop-file-test.false c.loop-file.invariant
