use Rattle.std.proofs.Common.{refl}
use Rattle.lab_dump.proofs.doubting.DoubtingTaker.take.Goals as goal

pub read_record-found-requires : goal.read_record-found-requires
read_record-found-requires c = record { body_whole = c.requires.body_whole; spare_whole = c.requires.spare_whole }

pub step-requires : goal.step-requires
step-requires c = record { row_in = c.requires.row_in; body_whole = c.requires.body_whole; spare_whole = c.requires.spare_whole; found = c.read_record-found.ensures; stands = c.requires.stands }

pub returns : goal.returns
returns c = record { asked = refl; fixed = refl; stands = c.step.ensures.stands; shows = c.step.ensures.is; stopped = tt }
