use Rattle.std.proofs.Common.{◌≡◌, ◌+◌, ◌-◌, length}
use Rattle.std.specs.List.{range_with_len}
use Rattle.lab_dump.specs.PageBytes.{page_from_bytes}
use Rattle.lab_mend.specs.Choice.{by_turns}
use Rattle.lab_mend.proofs.trial.try_all.Given as goal

abbrev pub invariant-loop-turned : goal.invariant-loop-turned
invariant-loop-turned l =
    record {
      same : l.out ≡ l.initial.out;
      count : l.differing ≡ length l.bits;
      room : length l.kept ≡ length l.initial.kept;
      rest : by_turns (page_from_bytes l.geometry.data_bytes l.initial.out) l.bits (range_with_len 1 (length l.bits)) ≡ by_turns (page_from_bytes l.geometry.data_bytes l.initial.out) l.bits (range_with_len l.turned (l.differing + 1 - l.turned));
    }
