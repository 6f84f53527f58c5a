use Rattle.std.proofs.Common.{◌≡◌}
use Rattle.std.specs.Prelude.{filter}
use Rattle.std.specs.List.{range_with_len}
use Rattle.lost_sectors.specs.Lost.{is_listed_in}
use Rattle.disk_damage.proofs.numbers.numbers_of.Given as goal

abbrev pub invariant-loop-n : goal.invariant-loop-n
invariant-loop-n l = l.sectors.items ≡ filter (is_listed_in l.lost) (range_with_len 0 l.n)
