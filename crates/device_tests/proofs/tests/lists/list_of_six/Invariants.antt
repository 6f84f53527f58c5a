use Rattle.command_queue.specs.Commands.{AreWhole}
use Rattle.device_tests.proofs.tests.lists.list_of_six.Given as goal

abbrev pub invariant-loop-command : goal.invariant-loop-command
invariant-loop-command g l = AreWhole l.geometry l.calls.items
