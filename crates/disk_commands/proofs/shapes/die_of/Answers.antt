use Rattle.std.proofs.Common.{rules, ◌≡◌, None}
use Rattle.disk_commands.proofs.ShapeLemmas.{none_enough, none_spare}
use Rattle.disk_commands.proofs.shapes.die_of.Goals as goal

pub returns-in_default-clause-none : goal.returns-in_default-clause-none
returns-in_default-clause-none c =
    let none : c.least_blocks.result ≡ None = search rules in
    λ is. none_enough c.args.pages c.args.share c.args.sectors (c.least_blocks.ensures.none none)

pub returns-in-Err-clause-none : goal.returns-in-Err-clause-none
returns-in-Err-clause-none c = λ is.
    none_spare c.args.pages c.args.share c.args.sectors c.in-Some.needed c.spare_of.result c.in-Some.ensures.some c.spare_of.ensures c.in-Err.ensures.err
