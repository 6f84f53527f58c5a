use Rattle.std.proofs.Common.{◌+◌, ◌-◌, ◌%◌, arith, length, length-take, refl, ℕ}
use Rattle.lab_arrange.proofs.ReadLemmas.{area_is}
use Rattle.lab_arrange.specs.Place.{header_length}
use Rattle.lab_arrange.proofs.area.read_area.Goals as goal

pub returns-clause-read : goal.returns-clause-read
returns-clause-read g c = λ all told size.
    let a = c.args.arrangement.now in
    area_is a.swapped a.inverted all (header_length a) c.args.at (length c.args.area.now) (c.args.at % 2) (c.from.result + (c.args.at - c.args.at % 2)) _ c.read_bytes.new.bytes c.take_area.new.area refl
    (omega (arith, c.from.ensures, c.unwrap_or.ensures)) (omega (arith, c.requires.room, length-take {A = ℕ})) (c.in_ok-read_bytes.ensures.read all told size) c.take_area.ensures
