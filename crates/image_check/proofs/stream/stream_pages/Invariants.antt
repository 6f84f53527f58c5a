use Rattle.image_check.specs.PageReader.{IsReadTo}
use Rattle.image_check.specs.Passed.{IsPass, IsSamePass, Shows}
use Rattle.image_check.proofs.stream.stream_pages.Given as goal

abbrev pub invariant-loop-row : goal.invariant-loop-row
invariant-loop-row g l =
    record {
      pass_is : IsPass l.row l.pass;
      pass_same : IsSamePass l.fn.pass l.pass;
      read : IsReadTo l.geometry l.row (g.R.DumpReader.remaining l.fn.reader) (g.R.DumpReader.remaining l.reader) (λ image. Shows image l.row l.pass);
    }
