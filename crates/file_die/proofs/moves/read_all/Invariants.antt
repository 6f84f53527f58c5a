use Rattle.std.proofs.Common.{◌≡◌, ℕ, ◌≤◌, ◌-◌, List, length, take, true}
use Rattle.page_layout.specs.Page.{Page}
use Rattle.file_die.specs.Bytes.{Gives}
use Rattle.file_die.specs.Rows.{IsFilled}
use Rattle.file_die.proofs.moves.read_all.Given as goal

abbrev pub invariant-loop-done : goal.invariant-loop-done
invariant-loop-done g l = record {
  long : length l.to ≡ length l.fn.to;
  most : l.done ≤ length l.fn.to;
  honest : g.F.ByteFile.honest l.file ≡ g.F.ByteFile.honest l.fn.file;
  tells : (size : ℕ) (reads : List ℕ → Page) → g.F.ByteFile.tells l.file size reads ≡ g.F.ByteFile.tells l.fn.file size reads;
  gave : Gives g.F.ByteFile.gave l.fn.file l.at (take l.done l.to) l.file;
  same : g.F.ByteFile.honest l.fn.file ≡ true → g.F.ByteFile.held l.file ≡ g.F.ByteFile.held l.fn.file;
  reads : g.F.ByteFile.honest l.fn.file ≡ true → IsFilled (g.F.ByteFile.held l.fn.file).bytes l.at l.done l.to;
}

abbrev pub decreases-loop-done : goal.decreases-loop-done
decreases-loop-done g l = length l.to - l.done
