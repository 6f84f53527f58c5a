use Rattle.std.proofs.Common.{◌≡◌, ◌≤◌, ℕ, ◌+◌, ◌-◌, ◌^◌, min, true}
use Rattle.page_layout.specs.Flash.{Flash}
use Rattle.bad_blocks.specs.Table.{unworn}
use Rattle.mount.specs.Attempt.{IsTrying}
use Rattle.mount.specs.OnlyWrites.{OnlyWrites}
use Rattle.mount.proofs.format_tables.write_in_block.Given as goal

abbrev pub invariant-loop-u : goal.invariant-loop-u
invariant-loop-u g l =
    let n = g.N.PageSource in
    record {
      trying : n.view.honest l.initial.nand ≡ true → (first : Flash) (failed : ℕ) → IsTrying l.geometry first (n.view.flash l.initial.nand) (unworn l.classes) l.block 0 l.initial.sequence failed →
          IsTrying l.geometry first (n.view.flash l.nand) (unworn l.classes) l.block l.u l.sequence failed;
      sequences : l.sequence ≡ l.initial.sequence + l.u;
      only_writes : OnlyWrites n.view l.initial.nand l.nand;
      programs : n.view.programs l.nand ≤ n.view.programs l.initial.nand + l.u;
      at_least : min (n.view.programs l.initial.nand + l.u) (2 ^ 64 - 1) ≤ n.view.programs l.nand;
    }
