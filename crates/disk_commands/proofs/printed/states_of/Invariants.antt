use Rattle.std.proofs.Common.{◌≡◌, take}
use Rattle.disk_commands.proofs.printed.states_of.Given as goal

abbrev pub invariant-loop-block : goal.invariant-loop-block
invariant-loop-block l = l.states.items ≡ take l.block l.certificate.blocks
