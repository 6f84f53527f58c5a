use Rattle.std.proofs.Common.{◌≡◌}
use Rattle.lab_dump.specs.Rows.{within}
use Rattle.lab_dump.specs.Scan.{IsReadTo}
use Rattle.lab_dump.proofs.pass.scan_rows.Given as goal

abbrev pub invariant-loop-row : goal.invariant-loop-row
invariant-loop-row g l =
    record {
      asked : g.T.Taker.asked l.taker ≡ g.T.Taker.asked l.fn.taker;
      fixed : g.T.Taker.fixed l.taker ≡ g.T.Taker.fixed l.fn.taker;
      stands : g.T.Taker.stands l.taker l.geometry l.row;
      read : IsReadTo l.geometry l.row (g.R.DumpReader.remaining l.fn.reader) (g.R.DumpReader.remaining l.reader) (λ image. g.T.Taker.shows l.taker l.geometry l.row (within l.geometry l.rows image));
    }
