use Rattle.std.proofs.Common.{◌≤◌, ◌%◌, arith}
use Rattle.std.proofs.Math.Nat.{mod-le}
use Rattle.lab_arrange.proofs.PlaceLemmas.{page_fits, run_fits}
use Rattle.lab_arrange.proofs.places.run_starts.Goals as goal

pub overflow_add-result-then-spare_first-2 : goal.overflow_add-result-then-spare_first-2
overflow_add-result-then-spare_first-2 c =
    let a = c.args in
    let start = run_fits a.run a.data_bytes a.spare_bytes a.row c.requires.few c.requires.data_few c.requires.spare_few in
    let i : a.row % a.run ≤ a.row = mod-le a.row a.run in
    let page = page_fits (a.row % a.run) a.spare_bytes (omega arith) (omega arith) in
    omega arith

pub overflow_add-result-else-spare_first-3 : goal.overflow_add-result-else-spare_first-3
overflow_add-result-else-spare_first-3 c =
    let a = c.args in
    let start = run_fits a.run a.data_bytes a.spare_bytes a.row c.requires.few c.requires.data_few c.requires.spare_few in
    let i : a.row % a.run ≤ a.row = mod-le a.row a.run in
    let page = page_fits (a.row % a.run) a.spare_bytes (omega arith) (omega arith) in
    let front = page_fits a.run a.data_bytes (omega arith) (omega arith) in
    omega arith
