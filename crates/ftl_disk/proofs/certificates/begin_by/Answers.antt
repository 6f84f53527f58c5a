use Rattle.std.proofs.Common.{inl, inr, refl}
use Rattle.ftl_disk.specs.Either.{either_view}
use Rattle.ftl_disk.proofs.DieLemmas.{starts_by}
use Rattle.ftl_disk.proofs.certificates.begin_by.Goals as goal

pub returns-in-Ok : goal.returns-in-Ok
returns-in-Ok g c =
    let its = c.start_checked-brought.ensures in let w = g.W.ChipLink in let plan = c.args.disk.now.plan in
    record {
      plan = refl;
      starts = record {
        link = c.go-link.result;
        between = c.go-link.new.self;
        goes = c.go-link.ensures.goes;
        comes = inl (record {
          die = c.in-Ok.die;
          its = c.in-Ok.ensures.die;
          comes =
              starts_by (either_view g.W.Link.die w.chip g.W.Link.honest w.keeps g.W.Link.called) g.W.Way.calls.leaves plan.geometry plan.cache c.in-Ok.die c.go-link.new.self c.args.disk.now.slot c.put.result c.put.new.way c.put.new.slot
              c.args.certificate.now c.start_checked-brought.result its.begun its.geometry its.capacity its.array its.pages its.reads its.most_reads its.fault its.given its.most_given c.put.ensures;
        });
      };
    }

pub returns-in-Err : goal.returns-in-Err
returns-in-Err g c = record { plan = refl; starts = record { link = c.go-link.result; between = c.go-link.new.self; goes = c.go-link.ensures.goes; comes = inr (refl, refl, c.in-Err.ensures.fault) } }
