use Rattle.std.proofs.Common.{◌∙◌, ap, inl, sym, subst, Err}
use Rattle.disk_damage.specs.Numbers.{listed_sectors}
use Rattle.disk_commands.specs.Check.{IsUncheckedAt}
use Rattle.disk_commands.proofs.DamageLemmas.{unseen_at}
use Rattle.disk_server.proofs.FaultLemmas.{handed_on}
use Rattle.disk_commands.proofs.check.damage_at.Goals as goal

pub returns-in-Ok-unsound_rows-clause-ok : goal.returns-in-Ok-unsound_rows-clause-ok
returns-in-Ok-unsound_rows-clause-ok g c = record {
  told = c.in_ok-looked.looked.told;
  found = c.in_ok-looked.looked.found;
  store = c.in_ok-looked.looked.store;
  certificate = _;
  list = c.in_ok-looked.looked.lost.items;
  looked = c.in_ok-looked.ensures.ok;
  lost_are = c.in-Ok.ensures ∙ ap listed_sectors c.deref.ensures.value;
  bad_are = c.in-Ok-bad_blocks.ensures;
  unsound_are = c.in-Ok-unsound_rows.ensures.rows;
}

pub returns-in_err-looked-clause-fault : goal.returns-in_err-looked-clause-fault
returns-in_err-looked-clause-fault g c =
    handed_on (IsUncheckedAt g.F.Store.Store.held g.F.Store.Store.honest g.F.Store.Store.failed (g.F.DiskFiles.answers c.args.files.now) c.args.path.now) _ _ c.from_residual.ensures.1 (inl c.in_err-looked.ensures.fault)

pub returns-clause-fault : goal.returns-clause-fault
returns-clause-fault g c =
    subst (IsUncheckedAt g.F.Store.Store.held g.F.Store.Store.honest g.F.Store.Store.failed (g.F.DiskFiles.answers c.args.files.now) c.args.path.now) (sym c.unseen.ensures)
    (unseen_at g.F.Store.Store.held g.F.Store.Store.honest g.F.Store.Store.failed (g.F.DiskFiles.answers c.args.files.now) c.args.path c.in_ok-looked.looked.told c.in_ok-looked.looked.found c.in_ok-looked.looked.store _ c.in_ok-looked.looked.lost.items
    c.unsound_rows.new.store c.in-Err.fault c.in_ok-looked.ensures.ok (λ is. c.unsound_rows.ensures.rose (c.in-Err.is ∙ ap Err is)))
