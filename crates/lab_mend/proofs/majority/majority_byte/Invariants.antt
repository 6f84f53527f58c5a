use Rattle.std.proofs.Common.{◌≡◌}
use Rattle.lab_mend.specs.Majority.{byte_of, majority_bit}
use Rattle.lab_mend.specs.Pages.{bytes_at}
use Rattle.lab_mend.proofs.majority.majority_byte.Given as goal

abbrev pub invariant-loop-bit : goal.invariant-loop-bit
invariant-loop-bit l = l.byte ≡ byte_of (majority_bit (bytes_at l.pages l.size l.count l.place)) l.bit
