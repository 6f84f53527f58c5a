use Rattle.lab_dump.specs.Rows.{within}
use Rattle.lab_dump.proofs.pass.scan.Goals as goal

pub scan_rows-requires : goal.scan_rows-requires
scan_rows-requires g c = record { stands = c.requires.stands; shows = c.requires.shows; body_whole = c.requires.body_whole; spare_whole = c.requires.spare_whole }

pub returns : goal.returns
unfolding within
returns g c =
    let done = c.scan_rows.ensures in
    record { asked = done.asked; fixed = done.fixed; stands = done.stands; taken = done.taken; untaken = done.untaken; source = done.source; stopped = done.stopped }
