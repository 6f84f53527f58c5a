use Rattle.std.proofs.Common.{◌≡◌, ℕ, ◌<◌, false}
use Rattle.page_layout.specs.Sound.{is_erased_page}
use Rattle.lab_dump.specs.PageBytes.{page_from_bytes}
use Rattle.lab_mend.specs.Bits.{turned_bytes}
use Rattle.lab_mend.proofs.mending.turn_erased.Given as goal

abbrev pub invariant-loop-bit : goal.invariant-loop-bit
invariant-loop-bit l =
    record {
      same : l.bytes ≡ l.initial.bytes;
      none : (j : ℕ) → j < l.bit → is_erased_page (page_from_bytes l.geometry.data_bytes (turned_bytes l.initial.bytes j)) ≡ false;
    }
