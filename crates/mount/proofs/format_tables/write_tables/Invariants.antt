use Rattle.std.proofs.Common.{◌≡◌, ◌<◌, ◌≤◌, ℕ, ◌+◌, ◌-◌, ◌*◌, ◌^◌, min, true, length}
use Rattle.page_layout.specs.Geometry.{table_pages}
use Rattle.bad_blocks.specs.Table.{good_count, unworn}
use Rattle.mount.specs.Attempt.{IsTrying}
use Rattle.mount.specs.OnlyWrites.{OnlyWrites}
use Rattle.mount.proofs.format_tables.write_tables.Given as goal

abbrev pub invariant-loop-failures : goal.invariant-loop-failures
invariant-loop-failures g l =
    let n = g.N.PageSource in
    record {
      trying : n.view.honest l.initial.nand ≡ true → IsTrying l.geometry (n.view.flash l.initial.nand) (n.view.flash l.initial.nand) (unworn l.initial.classes) 0 0 1 0 →
          (other : ℕ) → IsTrying l.geometry (n.view.flash l.initial.nand) (n.view.flash l.nand) (unworn l.classes) other 0 l.sequence l._failures;
      whole : length l.classes ≡ l.geometry.blocks;
      just : 0 < l._failures → l.need ≤ good_count (unworn l.classes) + 1;
      untouched : l._failures ≡ 0 → n.view.programs l.nand ≡ n.view.programs l.initial.nand;
      sequences : l.sequence ≤ 1 + l._failures * table_pages l.geometry;
      only_writes : OnlyWrites n.view l.initial.nand l.nand;
      programs : n.view.programs l.nand ≤ n.view.programs l.initial.nand + l._failures * table_pages l.geometry;
      at_least : min (n.view.programs l.initial.nand + l._failures) (2 ^ 64 - 1) ≤ n.view.programs l.nand;
    }
