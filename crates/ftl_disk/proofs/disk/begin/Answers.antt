use Rattle.std.proofs.Common.{inl, inr, refl}
use Rattle.ftl_disk.specs.Either.{either_view}
use Rattle.ftl_disk.proofs.DieLemmas.{starts}
use Rattle.ftl_disk.proofs.disk.begin.Goals as goal

pub returns-in-Ok : goal.returns-in-Ok
returns-in-Ok g c =
    let its = c.start-brought.ensures in let w = g.W.ChipLink in let plan = c.args.disk.now.plan in
    record {
      plan = refl;
      starts = record {
        link = c.go-link.result;
        between = c.go-link.new.self;
        goes = c.go-link.ensures.goes;
        comes = inl (record {
          die = c.in-Ok.die;
          its = c.in-Ok.ensures.die;
          comes =
              starts (either_view g.W.Link.die w.chip g.W.Link.honest w.keeps g.W.Link.called) g.W.Way.calls.leaves plan.geometry plan.cache c.in-Ok.die c.go-link.new.self c.args.disk.now.slot c.put.result c.put.new.way c.put.new.slot
              c.start-brought.result its.brings its.started its.fault its.tried c.put.ensures;
        });
      };
    }

pub returns-in-Err : goal.returns-in-Err
returns-in-Err g c = record { plan = refl; starts = record { link = c.go-link.result; between = c.go-link.new.self; goes = c.go-link.ensures.goes; comes = inr (refl, refl, c.in-Err.ensures.fault) } }
