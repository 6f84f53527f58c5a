use Rattle.std.proofs.Common.{◌≡◌, ℕ, ◌<◌, get_or}
use Rattle.page_layout.specs.Geometry.{page_bytes}
use Rattle.lab_mend.specs.Majority.{byte_of, majority_bit}
use Rattle.lab_mend.specs.Pages.{bytes_at}
use Rattle.lab_mend.proofs.majority.write_majority.Given as goal

abbrev pub invariant-loop-place : goal.invariant-loop-place
invariant-loop-place l = (j : ℕ) → j < l.place → get_or l.out j 0 ≡ byte_of (majority_bit (bytes_at l.pages (page_bytes l.geometry) l.count j)) 8
