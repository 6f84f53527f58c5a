use Rattle.std.proofs.Common.{arith}
use Rattle.disk_damage.proofs.NumberLemmas.{no_letter}
use Rattle.disk_damage.proofs.list_text.letters.Goals as goal

pub returns-in-None-clause-letter : goal.returns-in-None-clause-letter
returns-in-None-clause-letter c = λ is lost same. no_letter lost c.args.bytes.now c.loop-byte.byte-index (omega (arith, c.loop-byte-test.true)) (c.lost_by.ensures.none c.in-None.is) same
