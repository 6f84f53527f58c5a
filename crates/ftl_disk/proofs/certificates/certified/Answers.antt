use Rattle.std.proofs.Common.{inl, inr, refl}
use Rattle.ftl_disk.proofs.certificates.certified.Goals as goal

pub returns-in-Ok : goal.returns-in-Ok
returns-in-Ok g c = record {
  plan = refl;
  slot = refl;
  certifies = record {
    link = c.go-link.result;
    between = c.go-link.new.self;
    goes = c.go-link.ensures.goes;
    comes = inl (record { die = c.in-Ok.die; its = c.in-Ok.ensures.die; comes = record { after = c.certify_over-number.new.die; certifies = c.certify_over-number.ensures; left = c.leave.ensures } });
  };
}

pub returns-in-Err : goal.returns-in-Err
returns-in-Err g c = record { plan = refl; slot = refl; certifies = record { link = c.go-link.result; between = c.go-link.new.self; goes = c.go-link.ensures.goes; comes = inr (refl, refl, c.in-Err.ensures.fault) } }
