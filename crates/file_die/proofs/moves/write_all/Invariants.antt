use Rattle.std.proofs.Common.{◌≡◌, ℕ, ◌≤◌, ◌-◌, List, length, true}
use Rattle.page_layout.specs.Page.{Page}
use Rattle.file_die.specs.Bytes.{KeepsTold, TakesBytes, over}
use Rattle.file_die.specs.Rows.{Going}
use Rattle.file_die.proofs.moves.write_all.Given as goal

abbrev pub invariant-loop-done : goal.invariant-loop-done
invariant-loop-done g l = record {
  most : l.done ≤ length l.bytes;
  taken : TakesBytes g.F.ByteFile.wrote l.fn.file l.at l.bytes l.done l.file;
  honest : g.F.ByteFile.honest l.file ≡ g.F.ByteFile.honest l.fn.file;
  tells : (size : ℕ) (reads : List ℕ → Page) → g.F.ByteFile.tells l.file size reads ≡ g.F.ByteFile.tells l.fn.file size reads;
  going : g.F.ByteFile.honest l.fn.file ≡ true → l.at ≤ length (g.F.ByteFile.held l.fn.file).bytes → Going (g.F.ByteFile.held l.fn.file) l.at l.bytes l.done (g.F.ByteFile.held l.file);
  told : g.F.ByteFile.honest l.fn.file ≡ true → l.at ≤ length (g.F.ByteFile.held l.fn.file).bytes → (size : ℕ) (reads : List ℕ → Page) → g.F.ByteFile.tells l.fn.file size reads ≡ true →
      KeepsTold size reads (over l.at l.bytes (g.F.ByteFile.held l.fn.file).bytes) (g.F.ByteFile.held l.fn.file) (g.F.ByteFile.held l.file);
}

abbrev pub decreases-loop-done : goal.decreases-loop-done
decreases-loop-done g l = length l.bytes - l.done
