use Rattle.std.proofs.Common.{◌≡◌, drop}
use Rattle.disk_commands.specs.Sizes.{count_from}
use Rattle.disk_commands.proofs.sizes.count.Given as goal

abbrev pub invariant-loop-digit : goal.invariant-loop-digit
invariant-loop-digit l = count_from l.value (drop l.digit-index l.digits) ≡ count_from l.from l.digits
