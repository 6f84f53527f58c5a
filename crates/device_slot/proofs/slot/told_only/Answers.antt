use Rattle.command_queue.specs.Commands.{promised_command}
use Rattle.device_slot.proofs.CallLemmas.{told_none_out}
use Rattle.device_slot.proofs.slot.told_only.Goals as goal

pub returns-clause-told : goal.returns-clause-told
returns-clause-told g c =
    told_none_out g.N.PageSource.view c.args.device.now c.told.new.device (promised_command c.args.command) c.told.result c.told.new.bytes c.told.new.shortage
    c.requires.only c.told.ensures.told
