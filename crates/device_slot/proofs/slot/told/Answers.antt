use Rattle.command_queue.specs.Commands.{promised_command}
use Rattle.device_slot.proofs.CallLemmas.{kept_on}
use Rattle.device_slot.proofs.slot.told.Goals as goal

pub returns-clause-kept : goal.returns-clause-kept
returns-clause-kept g c =
    let its = c.tell-done.ensures in
    kept_on g.N.PageSource.view c.args.device.now c.tell-done.new.device (promised_command c.args.command) c.tell-done.result c.requires.kept its.device its.honest its.stopped its.stops its.well
