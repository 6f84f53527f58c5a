use Rattle.std.proofs.Common.{rules, ◌≡◌, Some, None, sym, ◌∙◌}
use Rattle.disk_commands.proofs.shape_words.geometry_from.Goals as goal

pub returns-in_default-clause-fault : goal.returns-in_default-clause-fault
returns-in_default-clause-fault c =
    let none : c.geometry_numbers.result ≡ None = search rules in
    λ numbers spelled. let clash : None ≡ Some numbers = sym none ∙ c.geometry_numbers.ensures.all numbers spelled in absurd (cc)
