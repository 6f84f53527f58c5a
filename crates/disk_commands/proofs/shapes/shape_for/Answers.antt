use Rattle.std.proofs.Common.{rules, ◌≡◌, arith, None, refl, subst}
use Rattle.std.specs.Int.{div_ceil}
use Rattle.disk_commands.specs.Shapes.{HasNoDie, IsDieOfSectors}
use Rattle.disk_commands.proofs.ShapeLemmas.{die_formats, die_pages}
use Rattle.disk_commands.proofs.shapes.shape_for.Goals as goal

pub returns-in_default-die_of_sectors-clause-none : goal.returns-in_default-die_of_sectors-clause-none
returns-in_default-die_of_sectors-clause-none c =
    let none : c.die_of_sectors.result ≡ None = search rules in
    let its : c.in-Ok.sectors ≡ div_ceil c.args.bytes 4096 = search rules in
    subst (HasNoDie c.args.share) its (c.die_of_sectors.ensures.none none)

pub returns-in_default-die_of_sectors-clause-fault : goal.returns-in_default-die_of_sectors-clause-fault
returns-in_default-die_of_sectors-clause-fault c = (omega (arith, c.if-bytes-eq0.false), returns-in_default-die_of_sectors-clause-none c)

pub returns-clause-ok : goal.returns-clause-ok
returns-clause-ok c =
    let its : c.in-Ok.sectors ≡ div_ceil c.args.bytes 4096 = search rules in
    record {
      die = subst (λ n. IsDieOfSectors c.args.share n c.in-Some.geometry) its c.in-Some.ensures.some;
      cache = c.cache_for.ensures.is;
      share_is = refl;
      code = refl;
    }

pub returns-clause-pages : goal.returns-clause-pages
returns-clause-pages c = die_pages c.args.share c.in-Ok.sectors c.in-Some.geometry c.in-Some.ensures.some

pub returns-clause-formats : goal.returns-clause-formats
returns-clause-formats c = die_formats c.args.share c.in-Ok.sectors c.in-Some.geometry c.in-Some.ensures.some
