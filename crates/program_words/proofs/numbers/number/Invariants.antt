use Rattle.std.proofs.Common.{◌≡◌, drop}
use Rattle.program_words.specs.Numbers.{number_from}
use Rattle.program_words.proofs.numbers.number.Given as goal

abbrev pub invariant-loop-digit : goal.invariant-loop-digit
invariant-loop-digit l = number_from l.value (drop l.digit-index l.digits) ≡ number_from 0 l.digits
