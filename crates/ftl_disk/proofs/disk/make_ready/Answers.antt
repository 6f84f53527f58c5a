use Rattle.std.proofs.Common.{inl, inr, refl}
use Rattle.ftl_disk.proofs.disk.make_ready.Goals as goal

pub returns-in-Ok : goal.returns-in-Ok
returns-in-Ok g c = record {
  plan = refl;
  slot = refl;
  formats = record {
    link = c.go-link.result;
    between = c.go-link.new.self;
    goes = c.go-link.ensures.goes;
    comes = inl (record { die = c.in-Ok.die; its = c.in-Ok.ensures.die; comes = record { after = c.format_over-number.new.die; formats = c.format_over-number.ensures; left = c.leave.ensures } });
  };
}

pub returns-in-Err : goal.returns-in-Err
returns-in-Err g c = record { plan = refl; slot = refl; formats = record { link = c.go-link.result; between = c.go-link.new.self; goes = c.go-link.ensures.goes; comes = inr (refl, tt, c.in-Err.ensures.fault) } }
