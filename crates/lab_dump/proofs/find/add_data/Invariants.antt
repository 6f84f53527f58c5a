use Rattle.std.proofs.Common.{◌≡◌, ◌++◌, ◌-◌, ◌*◌, ◌≤◌, List, ℕ, length, Some}
use Rattle.std.specs.List.{flat_map, range_with_len}
use Rattle.lab_dump.specs.Fits.{area_fits, AddsFits}
use Rattle.std.specs.Prelude.{vec_capacity}
use Rattle.lab_dump.proofs.find.add_data.Given as goal

abbrev pub invariant-loop-spare_bytes : goal.invariant-loop-spare_bytes
invariant-loop-spare_bytes g l = record {
  room : 4352 ≤ length l.page;
  same : g.D.Dump.bytes l.dump ≡ g.D.Dump.bytes l.fn.dump;
  added : (all : List ℕ) → g.D.Dump.bytes l.fn.dump ≡ Some all → l.size ≡ length all → l.fits.items ≡ l.fn.fits.items ++ flat_map (area_fits all l.data_bytes) (range_with_len 32 (l.spare_bytes - 32));
  any : AddsFits (7 * (l.spare_bytes - 32)) l.fn.fits.items l.fits.items;
  places : vec_capacity l.fits ≡ vec_capacity l.fn.fits;
}
