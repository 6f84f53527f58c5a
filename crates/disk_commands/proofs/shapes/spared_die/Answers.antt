use Rattle.std.proofs.Common.{rules, ◌≡◌, None, inl, inr, refl}
use Rattle.page_layout.specs.declared.geometry.Geometry.{Geometry}
use Rattle.disk_commands.specs.Shapes.{IsDieForSectors}
use Rattle.disk_commands.proofs.ShapeLemmas.{by_pages, fewer_than_128, spared_if, spared_with}
use Rattle.disk_commands.proofs.shapes.spared_die.Goals as goal

pub returns-in-Some-die_of-clause-some : goal.returns-in-Some-die_of-clause-some
returns-in-Some-die_of-clause-some c =
    let none : c.die_of.result ≡ None = search rules in
    spared_with 128 c.args.share c.args.sectors c.in-Some-die_of.geometry (inr (inl refl)) c.in-Some-die_of.ensures.some
    (fewer_than_128 (λ p. (g : Geometry) → ¬ IsDieForSectors p c.args.share c.args.sectors g) (c.die_of.ensures.none none))

pub returns-clause-some : goal.returns-clause-some
returns-clause-some c =
    let none : c.die_of.result ≡ None = search rules in
    let again : c.die_of-2.result ≡ None = search rules in
    spared_if c.args.share c.args.sectors c.die_of-3.result (c.die_of.ensures.none none) (c.die_of-2.ensures.none again) c.die_of-3.ensures.some

pub returns-clause-none : goal.returns-clause-none
returns-clause-none c = λ last.
    let none : c.die_of.result ≡ None = search rules in
    let again : c.die_of-2.result ≡ None = search rules in
    by_pages (λ p. (g : Geometry) → ¬ IsDieForSectors p c.args.share c.args.sectors g) (c.die_of.ensures.none none) (c.die_of-2.ensures.none again) (c.die_of-3.ensures.none last)
