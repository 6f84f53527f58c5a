use Rattle.std.proofs.Common.{◌≡◌, ℕ, List, length, take, true}
use Rattle.page_layout.specs.Page.{Page}
use Rattle.file_die.specs.Bytes.{InARow, ReadInterrupted, Gives}
use Rattle.file_die.specs.Rows.{IsFilled}
use Rattle.file_die.proofs.moves.read_next.Given as goal

-- so many calls were interrupted, and have changed nothing of what was read
abbrev pub invariant-loop-tries : goal.invariant-loop-tries
invariant-loop-tries g l = record {
  long : length l.to ≡ length l.fn.to;
  tried : InARow (ReadInterrupted g.F.ByteFile.gave) l._tries l.file;
  honest : g.F.ByteFile.honest l.file ≡ g.F.ByteFile.honest l.fn.file;
  tells : (size : ℕ) (reads : List ℕ → Page) → g.F.ByteFile.tells l.file size reads ≡ g.F.ByteFile.tells l.fn.file size reads;
  gave : (first : g.row.F.Denot) → Gives g.F.ByteFile.gave first l.at (take l.done l.fn.to) l.fn.file → Gives g.F.ByteFile.gave first l.at (take l.done l.to) l.file;
  same : g.F.ByteFile.honest l.fn.file ≡ true → g.F.ByteFile.held l.file ≡ g.F.ByteFile.held l.fn.file;
  reads : g.F.ByteFile.honest l.fn.file ≡ true → IsFilled (g.F.ByteFile.held l.fn.file).bytes l.at l.done l.fn.to → IsFilled (g.F.ByteFile.held l.fn.file).bytes l.at l.done l.to;
}
