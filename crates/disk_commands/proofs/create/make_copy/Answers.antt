use Rattle.std.proofs.Common.{refl, subst, sym, ◌∙◌}
use Rattle.disk_commands.specs.Created.{IsNoDump}
use Rattle.disk_commands.proofs.CreateLemmas.{removed}
use Rattle.disk_commands.proofs.DamageLemmas.{told_no_disk}
use Rattle.disk_commands.proofs.create.make_copy.Goals as goal

pub returns-in-Ok-mountable-clause-made : goal.returns-in-Ok-mountable-clause-made
returns-in-Ok-mountable-clause-made g c = λ honest. record {
  first = g.F.Store.Store.held c.in-Ok.store;
  holds = c.in-Ok.ensures.held;
  geometry = c.in-Ok.ensures.geometry;
  mounts = c.in-Ok-mountable.ensures.mounts (sym c.in-Ok-mountable.ensures.honest ∙ honest);
}

pub returns-in-Err-mountable-clause-fault : goal.returns-in-Err-mountable-clause-fault
returns-in-Err-mountable-clause-fault g c =
    let is_none = IsNoDump g.F.Store.Store.held g.F.Store.Store.honest g.F.Store.Store.failed (g.F.DiskFiles.answers c.args.files.now) c.args.path.now c.args.dump.now c.args.shape.now in
    let un = c.in-Err-mountable.ensures.fault in
    subst is_none (sym c.no_disk.ensures) (told_no_disk is_none c.args.dump c.in-Err-mountable.fault tt
    (λ other. (refl, other, c.in-Err-mountable.ensures.room, (c.in-Ok.store, un.0, c.in-Ok.ensures.held, c.in-Ok.ensures.geometry, un.1))))

pub returns-in-Err-mountable-clause-no_part : goal.returns-in-Err-mountable-clause-no_part
returns-in-Err-mountable-clause-no_part g c = removed _ _ _ c.in-Ok.ensures.part c.discard.ensures.part
