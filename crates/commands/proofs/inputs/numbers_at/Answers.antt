use Rattle.std.proofs.Common.{◌≡◌, Some, None}
use Rattle.commands.proofs.inputs.numbers_at.Goals as goal

pub returns-in-None-clause-none : goal.returns-in-None-clause-none
returns-in-None-clause-none c numbers spelled =
    let some : c.geometry_numbers.result ≡ Some numbers = c.geometry_numbers.ensures.all numbers spelled in
    let none : c.geometry_numbers.result ≡ None = c.in-None.is in
    cc
