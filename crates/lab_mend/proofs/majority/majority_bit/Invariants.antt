use Rattle.std.proofs.Common.{◌≡◌, ◌≤◌}
use Rattle.lab_mend.specs.Majority.{votes}
use Rattle.lab_mend.specs.Pages.{bytes_at}
use Rattle.lab_mend.proofs.majority.majority_bit.Given as goal

abbrev pub invariant-loop-i : goal.invariant-loop-i
invariant-loop-i l =
    record {
      votes_are : l.votes ≡ votes (bytes_at l.pages l.size l.i l.place) l.bit;
      few : l.votes ≤ l.i;
    }
