use Rattle.disk_laws.proofs.KilledLemmas.{found_as_it_was_law, found_torn_law, killed_change_law, killed_flush_law, killed_turn_law}
use Rattle.disk_laws.proofs.kill_laws.Goals as goal

pub returns : goal.returns
returns g c =
    let n = g.N.PageSource in
    record {
      change = killed_change_law n.view;
      flush = killed_flush_law n.view;
      turn = killed_turn_law n.view;
      as_it_was = found_as_it_was_law n.view;
      torn = found_torn_law n.view;
    }
