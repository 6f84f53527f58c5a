use Rattle.std.proofs.Common.{◌≡◌, ℕ, ◌≤◌, List, length, true}
use Rattle.page_layout.specs.Page.{Page}
use Rattle.file_die.specs.Bytes.{InARow, TakesBytes, WriteInterrupted, Bytes, KeepsTold, over}
use Rattle.file_die.specs.Rows.{Going}
use Rattle.file_die.proofs.moves.write_next.Given as goal

-- so many calls were interrupted: no more is written, and what was torn still tells itself
abbrev pub invariant-loop-tries : goal.invariant-loop-tries
invariant-loop-tries g l = record {
  taken : (first : g.row.F.Denot) → TakesBytes g.F.ByteFile.wrote first l.at l.bytes l.done l.fn.file → TakesBytes g.F.ByteFile.wrote first l.at l.bytes l.done l.file;
  tried : InARow (WriteInterrupted g.F.ByteFile.wrote) l._tries l.file;
  honest : g.F.ByteFile.honest l.file ≡ g.F.ByteFile.honest l.fn.file;
  tells : (size : ℕ) (reads : List ℕ → Page) → g.F.ByteFile.tells l.file size reads ≡ g.F.ByteFile.tells l.fn.file size reads;
  going : g.F.ByteFile.honest l.fn.file ≡ true → (first : Bytes) → l.at ≤ length first.bytes → Going first l.at l.bytes l.done (g.F.ByteFile.held l.fn.file) → Going first l.at l.bytes l.done (g.F.ByteFile.held l.file);
  told : g.F.ByteFile.honest l.fn.file ≡ true → (first : Bytes) → l.at ≤ length first.bytes → Going first l.at l.bytes l.done (g.F.ByteFile.held l.fn.file) →
      (size : ℕ) (reads : List ℕ → Page) → g.F.ByteFile.tells l.fn.file size reads ≡ true → KeepsTold size reads (over l.at l.bytes first.bytes) (g.F.ByteFile.held l.fn.file) (g.F.ByteFile.held l.file);
}
