use Rattle.std.proofs.Common.{inl, inr, ap, refl, subst, sym, ◌∙◌, ◌≡◌, true}
use Rattle.nand_die.specs.Made.{AreNames}
use Rattle.disk_commands.specs.Created.{IsDieAskedFor, IsUnmadeFor}
use Rattle.disk_commands.specs.Files.{FailsNoMore, LeavesNoPart, no_part}
use Rattle.disk_commands.proofs.CreateLemmas.{created, kept_then, none_after, not_kept}
use Rattle.disk_server.proofs.FaultLemmas.{is_handed_on}
use Rattle.disk_commands.proofs.create.create_command.Goals as goal

pub returns-in_err-shape : goal.returns-in_err-shape
returns-in_err-shape g c =
    rw (is_handed_on _ _ c.from_residual.ensures.1) (record {
      ok = tt;
      fault = inl c.in_err-shape.ensures.fault;
      part = inl refl;
      kept = refl;
      opened = refl;
    })

pub returns-in_err-bad : goal.returns-in_err-bad
returns-in_err-bad g c =
    rw (is_handed_on _ _ c.from_residual-in_err-bad.ensures.1) (record {
      ok = tt;
      fault = inr (c.in_ok-shape.shape, c.in_ok-shape.ensures.ok, inl c.in_err-bad.ensures.fault);
      part = inl refl;
      kept = refl;
      opened = refl;
    })

pub returns-in_err-want_free : goal.returns-in_err-want_free
returns-in_err-want_free g c =
    let same = c.in_err-want_free.ensures.same in
    rw (is_handed_on _ _ c.from_residual-in_err-want_free.ensures.1) (record {
      ok = tt;
      fault = inr (c.in_ok-shape.shape, c.in_ok-shape.ensures.ok, inr (c.in_ok-bad.bad.items, c.in_ok-bad.ensures.ok, inl c.in_err-want_free.ensures.fault));
      part = inl (ap g.F.DiskFiles.part same);
      kept = ap g.F.DiskFiles.kept same;
      opened = ap g.F.DiskFiles.opened same;
    })

pub make-requires : goal.make-requires
make-requires g c = record {
  cache = c.in_ok-shape.ensures.within;
  named = subst (AreNames c.in_ok-shape.shape.geometry) (sym c.deref.ensures.value) c.in_ok-bad.ensures.named;
}

pub returns-in_err-store : goal.returns-in_err-store
returns-in_err-store g c =
    let store = g.F.Store.Store in
    let answers = g.F.DiskFiles.answers in
    let shape = c.in_ok-shape in
    let bad = c.in_ok-bad in
    let same = c.in_ok-want_free.ensures.same in
    let told = c.in_err-store.field-0.0 in
    let unmade = subst (λ f. IsUnmadeFor store.held store.honest store.failed (answers f) c.args.words.disk.now c.args.words.make shape.shape c.deref.result.now told) same c.in_err-store.ensures.fault in
    let named = subst (λ xs. IsUnmadeFor store.held store.honest store.failed (answers c.args.files.now) c.args.words.disk.now c.args.words.make shape.shape xs told) c.deref.ensures.value unmade in
    rw (is_handed_on _ _ c.from_residual-in_err-store.ensures.1) (record {
      ok = tt;
      fault = inr (shape.shape, shape.ensures.ok, inr (bad.bad.items, bad.ensures.ok, inr (c.in_ok-want_free.ensures.free, inl named)));
      part = subst (λ f. LeavesNoPart (g.F.DiskFiles.part f) (g.F.DiskFiles.part c.make.new.files)) same c.in_err-store.ensures.no_part;
      kept = c.in_err-store.ensures.kept ∙ ap g.F.DiskFiles.kept same;
      opened = c.in_err-store.ensures.opened ∙ ap g.F.DiskFiles.opened same;
    })

pub returns : goal.returns
returns g c =
    let held = g.F.Store.Store in
    let answers = g.F.DiskFiles.answers in
    let shape = c.in_ok-shape in
    let bad = c.in_ok-bad in
    let made = c.in_ok-store in
    let free = c.in_ok-want_free.ensures.free in
    let same = c.in_ok-want_free.ensures.same in
    let die = subst (λ f. held.honest made.store ≡ true → IsDieAskedFor (answers f) c.args.words.make shape.shape c.deref.result.now (held.held made.store)) same made.ensures.made in
    let named = subst (λ xs. held.honest made.store ≡ true → IsDieAskedFor (answers c.args.files.now) c.args.words.make shape.shape xs (held.held made.store)) c.deref.ensures.value die in
    record {
      ok = created held.held held.honest (answers c.args.files.now) c.args.words shape.shape bad.bad.items _ _ _ made.store c.put.result shape.ensures.ok bad.ensures.ok free named
          (made.ensures.honest ∙ ap (λ f. (answers f).honest) same) (made.ensures.kept ∙ ap g.F.DiskFiles.kept same) c.put.ensures.ok;
      fault = not_kept held.held held.honest held.failed (answers c.args.files.now) (answers c.make.new.files) c.args.words shape.shape bad.bad.items c.put.result shape.ensures.ok bad.ensures.ok free
          (subst (λ f. FailsNoMore (answers f) (answers c.make.new.files)) same made.ensures.no_more) c.put.ensures.fault;
      part = inr (c.put.ensures.part ∙ (ap no_part made.ensures.part ∙ (none_after _ ∙ ap (λ f. no_part (g.F.DiskFiles.part f)) same)));
      kept = kept_then c.put.result _ (g.F.DiskFiles.kept c.make.new.files) _ c.put.ensures.kept (made.ensures.kept ∙ ap g.F.DiskFiles.kept same);
      opened = c.put.ensures.opened ∙ (made.ensures.opened ∙ ap g.F.DiskFiles.opened same);
    }
