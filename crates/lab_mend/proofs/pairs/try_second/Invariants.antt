use Rattle.std.proofs.Common.{◌≡◌, ◌-◌, ◌++◌, List}
use Rattle.lab_dump.specs.PageBytes.{bits_of, page_from_bytes}
use Rattle.lab_mend.specs.declared.pairs.BitPair.{BitPair}
use Rattle.lab_mend.specs.Pairs.{pairs_with, second_bits, seen_with}
use Rattle.lab_mend.specs.Seal.{HasHashedPrefix}
use Rattle.lab_mend.proofs.PairLemmas.{bits_from}
use Rattle.lab_mend.proofs.pairs.try_second.Given as goal

abbrev pub invariant-loop-high : goal.invariant-loop-high
invariant-loop-high l =
    record {
      same : l.bytes ≡ l.initial.bytes;
      taken : HasHashedPrefix l.geometry.data_bytes l.initial.bytes l.high l.prefix;
      seen : (more : List BitPair) → seen_with l.seen (pairs_with l.low (bits_from (page_from_bytes l.geometry.data_bytes l.initial.bytes) l.high (bits_of l.initial.bytes - l.high)) ++ more)
          ≡ seen_with l.fn.seen (pairs_with l.low (second_bits (page_from_bytes l.geometry.data_bytes l.initial.bytes) l.low) ++ more);
    }
