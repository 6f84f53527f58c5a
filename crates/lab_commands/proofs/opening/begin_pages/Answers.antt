use Rattle.lab_commands.proofs.BegunLemmas.{as_many_begun}
use Rattle.lab_commands.proofs.opening.begin_pages.Goals as goal

pub returns : goal.returns
returns g c =
    let begun = c.begin_file.ensures in
    record {
      bytes = begun.bytes;
      reads = begun.reads;
      pages = as_many_begun g.F.Target.Pieces.pieces c.begin_file.result _ _ _ begun.blank c.rows.ensures;
      writes = begun.writes;
      fault = begun.fault;
      no_more = begun.no_more;
      made = begun.made;
      kept = begun.kept;
      opened = begun.opened;
    }
