use Rattle.std.proofs.Common.{◌∙◌, ap}
use Rattle.command_queue.specs.Exchanges.{exchanges_of}
use Rattle.command_queue.specs.Tells.{Tells}
use Rattle.command_queue.specs.Told.{RunsTo, RunsFrom}
use Rattle.command_queue.proofs.AcceptedLemmas.{started_well, ran_accepted}
use Rattle.command_queue.proofs.ToldLemmas.{until_so}
use Rattle.command_queue.proofs.queue.run_accepted_at.Goals as goal

pub returns-clause-until : goal.returns-clause-until
returns-clause-until g c =
    let its = c.in_ok-device.ensures in
    let device = c.in_ok-device.device in
    until_so (λ d. d) (RunsTo g.N.PageSource.view device)
    (RunsFrom g.N.PageSource.view c.args.nand c.args.share c.args.accepted) (Tells g.N.PageSource.view)
    (Tells g.N.PageSource.view)
    (exchanges_of c.run.new.calls) c.run.new.device
    (λ before mid runs honest accepted.
    let well = started_well g.N.PageSource.view.flash device (g.N.PageSource.view.flash c.args.nand).geometry c.args.share c.args.accepted.claim c.args.accepted.stale its.begun (its.truth honest accepted) in
    let both = runs.1 (ap g.N.PageSource.view.honest its.nand ∙ honest) well in (
      both.0,
      ran_accepted g.N.PageSource.view
          (g.N.PageSource.view.flash c.args.nand) c.args.share c.args.accepted device mid before (ap g.N.PageSource.view.flash its.nand) its.begun accepted
          (its.free honest accepted) (its.accounts honest accepted) both.1,
    ))
    (λ before mid x known runs bus fails. fails) c.run.ensures.told.until

pub returns-clause-each : goal.returns-clause-each
returns-clause-each g c = (let its = c.in_ok-device.ensures in record { first = c.in_ok-device.device; nand_is = its.nand; begun = its.begun; told = c.run.ensures.told })
