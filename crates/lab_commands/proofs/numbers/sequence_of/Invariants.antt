use Rattle.std.proofs.Common.{◌≡◌, drop}
use Rattle.lab_commands.specs.Numbers.{sequence_from}
use Rattle.lab_commands.proofs.numbers.sequence_of.Given as goal

abbrev pub invariant-loop-digit : goal.invariant-loop-digit
invariant-loop-digit l = sequence_from l.value (drop l.digit-index l.digits) ≡ sequence_from 0 l.digits
