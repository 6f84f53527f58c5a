use Rattle.std.proofs.Common.{◌≡◌, ℕ, ◌<◌, false}
use Rattle.lab_dump.specs.PageBytes.{is_sound, page_from_bytes}
use Rattle.lab_mend.specs.Bits.{turned_bytes}
use Rattle.lab_mend.specs.Seal.{HasHashedPrefix}
use Rattle.lab_mend.proofs.mending.turn_lowest.Given as goal

abbrev pub invariant-loop-bit : goal.invariant-loop-bit
invariant-loop-bit l =
    record {
      same : l.bytes ≡ l.initial.bytes;
      none : (j : ℕ) → j < l.bit → is_sound (page_from_bytes l.geometry.data_bytes (turned_bytes l.initial.bytes j)) ≡ false;
      taken : HasHashedPrefix l.geometry.data_bytes l.initial.bytes l.bit l.prefix;
    }
