use Rattle.std.proofs.Common.{◌≡◌, ◌≤◌, length}
use Rattle.std.specs.Prelude.{vec_capacity}
use Rattle.std.specs.List.{filter, list_any, range_with_len}
use Rattle.lab_mend.specs.Trial.{differ_in}
use Rattle.lab_mend.specs.Tried.{first_at, pages_at}
use Rattle.lab_mend.proofs.trial.list_bits.Given as goal

abbrev pub invariant-loop-bit : goal.invariant-loop-bit
invariant-loop-bit l =
    record {
      are : l.bits.items ≡ filter (λ k. list_any (λ q. differ_in (first_at l.geometry l.pages l.places) q k) (pages_at l.geometry l.pages l.places)) (range_with_len 0 l.bit);
      few : length l.bits.items ≤ 16;
      room : vec_capacity l.bits ≡ vec_capacity l.fn.bits;
    }
