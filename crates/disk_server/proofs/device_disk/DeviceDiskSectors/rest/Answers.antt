use Rattle.std.proofs.Common.{◌≡◌, false, Err, subst, sym}
use Rattle.std.specs.Prelude.{◌↔◌, IsSome}
use Rattle.nbd_stream.specs.Disk.{Idles}
use Rattle.nbd_stream.specs.declared.fault.DiskFault.TheVariants.{Failed}
use Rattle.ftl_device.specs.Calls.{stop_of}
use Rattle.disk_server.specs.Disk.{AsksTurn, contents_of, holds, rest_answer}
use Rattle.disk_server.proofs.Calls.{turn_disk, turn_idles, turn_stops}
use Rattle.disk_server.proofs.Holding.{parts}
use Rattle.disk_server.proofs.device_disk.DeviceDiskSectors.rest.Goals as goal

pub invariant_of-self : goal.invariant_of-self
invariant_of-self g c = turn_disk g.N.PageSource.view
    c.self.inside.device c.turn.new.self c.turn.result c.self.invariant c.turn.ensures.upkeeps c.turn.ensures.device

pub returns-clause-idles : goal.returns-clause-idles
returns-clause-idles g c =
    subst (λ r. Idles (contents_of g.N.PageSource.view) (holds g.N.PageSource.view.honest) (λ d. false) c.args.self.now r c.turn.new.self) (sym c.rest_answer.ensures)
    (subst (λ d. Idles (contents_of g.N.PageSource.view) (holds g.N.PageSource.view.honest) (λ d. false) d (rest_answer c.turn.result) c.turn.new.self) c.self.view_is
    (turn_idles g.N.PageSource.view
    c.self.inside.device c.turn.new.self c.turn.result c.self.invariant c.turn.ensures.upkeeps c.turn.ensures.geometry c.turn.ensures.device))

pub returns-clause-rests : goal.returns-clause-rests
returns-clause-rests g c =
    subst (λ d. AsksTurn g.N.PageSource.view
    d c.rest_answer.result c.turn.new.self) c.self.view_is
    (record {
      answer = c.turn.result;
      told = c.rest_answer.ensures;
      upkeeps = c.turn.ensures.upkeeps;
      disk = invariant_of-self g c;
      turned = c.turn.ensures.turned;
      idle = c.turn.ensures.rests;
      quiet = λ h. c.turn.ensures.quiet (parts g.N.PageSource.view.honest c.self.inside.device h).0 (c.self.invariant.well h);
      falls = λ h. c.turn.ensures.falls (parts g.N.PageSource.view.honest c.self.inside.device h).0 (c.self.invariant.well h);
      rescued = λ h. c.turn.ensures.rescued (parts g.N.PageSource.view.honest c.self.inside.device h).0 (c.self.invariant.well h);
      worked = λ h. c.turn.ensures.worked (parts g.N.PageSource.view.honest c.self.inside.device h).0 (c.self.invariant.well h);
    })

pub returns-clause-stopped : goal.returns-clause-stopped
returns-clause-stopped g c =
    subst (λ r. (r ≡ Err Failed) ↔ IsSome (stop_of c.turn.new.self.engine.fault)) (sym c.rest_answer.ensures)
    (turn_stops g.N.PageSource.view
    c.self.inside.device c.turn.new.self c.turn.result c.self.invariant c.turn.ensures.upkeeps)
