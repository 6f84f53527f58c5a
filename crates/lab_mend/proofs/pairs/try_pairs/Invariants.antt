use Rattle.std.proofs.Common.{◌≡◌, ◌-◌}
use Rattle.lab_dump.specs.PageBytes.{bits_of, page_from_bytes}
use Rattle.lab_mend.specs.Pairs.{by_pairs, seen_with, sound_pairs}
use Rattle.lab_mend.specs.Seal.{HasHashedPrefix}
use Rattle.lab_mend.proofs.PairLemmas.{pairs_from}
use Rattle.lab_mend.proofs.pairs.try_pairs.Given as goal

abbrev pub invariant-loop-low : goal.invariant-loop-low
invariant-loop-low g l =
    record {
      same : l.bytes ≡ l.initial.bytes;
      taken : HasHashedPrefix l.geometry.data_bytes l.initial.bytes l.low l.prefix;
      seen : seen_with l.seen (pairs_from (page_from_bytes l.geometry.data_bytes l.initial.bytes) l.low (bits_of l.initial.bytes - l.low)) ≡ by_pairs (sound_pairs (page_from_bytes l.geometry.data_bytes l.initial.bytes));
    }
