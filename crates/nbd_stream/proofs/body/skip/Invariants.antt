use Rattle.std.proofs.Common.{◌≡◌, ◌+◌, ℕ, List, length}
use Rattle.std.specs.Io.KnownBytes.{Consumes}
use Rattle.nbd_stream.proofs.body.skip.Given as goal

abbrev pub invariant-loop-left : goal.invariant-loop-left
invariant-loop-left g l = (length l.piece ≡ 512) × (bytes : List ℕ) × (length bytes + l.left ≡ l.fn.count) × Consumes (g.R.Read.remaining l.fn.reader) (g.R.Read.remaining l.reader) bytes

abbrev pub decreases-loop-left : goal.decreases-loop-left
decreases-loop-left g l = l.left
