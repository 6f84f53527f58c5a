use Rattle.std.proofs.Common.{◌∙◌, Bool, List, ap, inl, inr, refl, subst, sym}
use Rattle.disk_commands.specs.Damage.{IsListAt, IsLookedAt, IsNoListAt, IsUnlookedAt}
use Rattle.disk_commands.specs.Files.{SaysNoMore}
use Rattle.disk_commands.proofs.DamageLemmas.{kept_flags, looked_at, mark_fault, no_list_back, told_no_disk}
use Rattle.disk_server.proofs.FaultLemmas.{is_handed_on}
use Rattle.disk_commands.proofs.damage.look_at.Goals as goal

pub returns-in_err-store : goal.returns-in_err-store
returns-in_err-store g c =
    rw (is_handed_on _ _ c.from_residual.ensures.1) (record {
      ok = tt;
      fault = inl c.in_err-store.ensures.fault;
      opened = c.in_err-store.ensures.opened;
      within = tt;
      no_more = tt;
      kept = c.in_err-store.ensures.kept;
    })

pub returns-in_err-found : goal.returns-in_err-found
returns-in_err-found g c =
    let first = c.in_ok-store.ensures in
    let same = c.in_err-found.ensures.same in
    rw (is_handed_on _ _ c.from_residual-in_err-found.ensures.1) (record {
      ok = tt;
      fault = inl (mark_fault (g.F.DiskFiles.answers c.args.files.now) (g.F.DiskFiles.answers c.open_at.new.files) c.args.path.now c.in_err-found.field-0.0 first.no_more c.in_err-found.ensures.fault);
      opened = ap g.F.DiskFiles.opened same ∙ first.opened;
      within = tt;
      no_more = tt;
      kept = ap g.F.DiskFiles.kept same ∙ first.kept;
    })

pub returns-in_err-lost : goal.returns-in_err-lost
returns-in_err-lost g c =
    let first = c.in_ok-store.ensures in
    let told = c.in_ok-store.told in
    let none = subst (λ x. IsNoListAt (g.F.DiskFiles.answers x) c.args.path.now told c.in_err-lost.field-0.0) c.in_ok-found.ensures.same c.in_err-lost.ensures.fault in
    let same = c.in_err-lost.ensures.same ∙ c.in_ok-found.ensures.same in
    rw (is_handed_on _ _ c.from_residual-in_err-lost.ensures.1) (record {
      ok = tt;
      fault = inr (inr (inl (told, first.ok.text, no_list_back (g.F.DiskFiles.answers c.args.files.now) (g.F.DiskFiles.answers c.open_at.new.files) c.args.path.now told c.in_err-lost.field-0.0 first.no_more none)));
      opened = ap g.F.DiskFiles.opened same ∙ first.opened;
      within = tt;
      no_more = tt;
      kept = ap g.F.DiskFiles.kept same ∙ first.kept;
    })

pub returns-in-Ok : goal.returns-in-Ok
returns-in-Ok g c =
    let first = c.in_ok-store.ensures in
    let answers = g.F.DiskFiles.answers in
    let list : List Bool = c.deref_mut.result.now in
    let new : List Bool = c.mount_and_find.new.lost in
    let whole = kept_flags c.in_ok-lost.lost.len new c.in_ok-lost.lost.items (c.mount_and_find.ensures.kept.size ∙ c.deref_mut.ensures.len) in
    let listed : IsListAt (answers c.mark_at.new.files) c.args.path.now c.in_ok-store.told list =
    subst (λ (xs : List Bool). IsListAt (answers c.mark_at.new.files) c.args.path.now c.in_ok-store.told xs) (sym c.deref_mut.ensures.value) c.in_ok-lost.ensures.ok in
    let same = c.in_ok-lost.ensures.same ∙ c.in_ok-found.ensures.same in
    record {
      ok = subst (λ (xs : List Bool). IsLookedAt g.F.Store.Store.held g.F.Store.Store.honest (answers c.args.files.now) c.args.path.now c.in_ok-store.told c.in_ok-found.found c.in-Ok.store c.in-Ok.certificate xs) (sym whole)
          (looked_at g.F.Store.Store.held g.F.Store.Store.honest (answers c.args.files.now) (answers c.open_at.new.files) (answers c.mark_at.new.files) c.args.path.now c.in_ok-store.told c.in_ok-found.found
          c.in_ok-store.store c.in-Ok.store c.in-Ok.certificate list new first.no_more (ap answers c.in_ok-found.ensures.same) first.ok c.in_ok-found.ensures.ok
          listed c.in-Ok.ensures.back c.in-Ok.ensures.mounted c.in-Ok.ensures.adds c.mount_and_find.ensures.kept);
      fault = tt;
      opened = ap g.F.DiskFiles.opened same ∙ first.opened;
      within = first.within;
      no_more = subst (λ f. SaysNoMore (answers c.args.files.now) (answers f)) (sym same) first.no_more;
      kept = ap g.F.DiskFiles.kept same ∙ first.kept;
    }

pub returns : goal.returns
returns g c =
    let first = c.in_ok-store.ensures in
    let same = c.in_ok-lost.ensures.same ∙ c.in_ok-found.ensures.same in
    record {
      ok = tt;
      fault = subst (IsUnlookedAt g.F.Store.Store.held g.F.Store.Store.honest g.F.Store.Store.failed (g.F.DiskFiles.answers c.args.files.now) c.args.path.now) (sym c.no_disk.ensures)
          (told_no_disk (IsUnlookedAt g.F.Store.Store.held g.F.Store.Store.honest g.F.Store.Store.failed (g.F.DiskFiles.answers c.args.files.now) c.args.path.now) c.args.path c.in-Err.why (inr (inl tt))
          (λ other. inr (inr (inr (refl, other, (c.in_ok-store.told, c.in_ok-store.store, c.in-Err.field-0-0, first.ok, c.in-Err.ensures.fault))))));
      opened = ap g.F.DiskFiles.opened same ∙ first.opened;
      within = tt;
      no_more = tt;
      kept = ap g.F.DiskFiles.kept same ∙ first.kept;
    }
