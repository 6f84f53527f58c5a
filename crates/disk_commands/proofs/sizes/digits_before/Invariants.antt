use Rattle.std.proofs.Common.{◌≡◌, ◌+◌, drop}
use Rattle.disk_commands.specs.Sizes.{digits_before}
use Rattle.disk_commands.proofs.sizes.digits_before.Given as goal

abbrev pub invariant-loop-letter : goal.invariant-loop-letter
invariant-loop-letter l = (l.count + digits_before (drop l.letter-index l.text) ≡ digits_before l.text) × (l.count ≡ l.letter-index)
