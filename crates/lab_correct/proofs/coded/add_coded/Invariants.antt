use Rattle.std.proofs.Common.{◌≡◌, ◌++◌, ◌*◌, ◌≤◌, List, ℕ, All, length, take, Some}
use Rattle.std.specs.List.{flat_map}
use Rattle.std.specs.Prelude.{vec_capacity}
use Rattle.page_layout.specs.Limits.{IsDataSize}
use Rattle.lab_dump.specs.Shape.{data_sizes}
use Rattle.lab_dump.specs.Fits.{AddsFits}
use Rattle.lab_correct.specs.Coded.{coded_data_fits}
use Rattle.lab_correct.proofs.coded.add_coded.Given as goal

abbrev pub invariant-loop-data_bytes : goal.invariant-loop-data_bytes
invariant-loop-data_bytes g l = record {
  sizes : All IsDataSize l.data_bytes-items;
  items : l.data_bytes-items ≡ data_sizes;
  raw_room : 4352 ≤ length l.raw;
  room : 4352 ≤ length l.page;
  same : g.D.Dump.bytes l.dump ≡ g.D.Dump.bytes l.fn.dump;
  added : (all : List ℕ) → g.D.Dump.bytes l.fn.dump ≡ Some all → l.size ≡ length all → l.fits.items ≡ l.fn.fits.items ++ flat_map (coded_data_fits all) (take l.data_bytes-index data_sizes);
  any : AddsFits (1575 * l.data_bytes-index) l.fn.fits.items l.fits.items;
  places : vec_capacity l.fits ≡ vec_capacity l.fn.fits;
}
