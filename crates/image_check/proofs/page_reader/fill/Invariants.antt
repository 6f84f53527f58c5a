use Rattle.std.proofs.Common.{length, ◌-◌, ◌≡◌, ◌≤◌, take}
use Rattle.std.specs.Io.KnownBytes.{Consumes}
use Rattle.image_check.proofs.page_reader.fill.Given as goal

abbrev pub invariant-loop-count : goal.invariant-loop-count
invariant-loop-count g l = (length l.buffer ≡ length l.initial.buffer) × (l.count ≤ length l.buffer)
    × Consumes (g.R.DumpReader.remaining l.initial.reader) (g.R.DumpReader.remaining l.reader) (take l.count l.buffer)

abbrev pub decreases-loop-count : goal.decreases-loop-count
decreases-loop-count g l = length l.initial.buffer - l.count
