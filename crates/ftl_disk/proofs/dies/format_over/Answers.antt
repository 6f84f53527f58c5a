use Rattle.std.proofs.Common.{sym, ap, ◌∙◌, rules}
use Rattle.ftl_disk.specs.Numbers.{of_formatting}
use Rattle.ftl_disk.proofs.dies.format_over.Goals as goal

pub returns-in-Ok : goal.returns-in-Ok
returns-in-Ok g c = record { result = c.format.result; number_is = sym (ap of_formatting c.in-Ok.is); formats = c.format.ensures.formats; answers = c.format.ensures.answers; rose = search rules }

pub returns-in-Err : goal.returns-in-Err
returns-in-Err g c = record { result = c.format.result; number_is = c.of_format.ensures ∙ sym (ap of_formatting c.in-Err.is); formats = c.format.ensures.formats; answers = c.format.ensures.answers; rose = search rules }
