use Rattle.std.proofs.Common.{◌∙◌, List, Option, ℕ, inl, inr, refl, subst, ap, Err}
use Rattle.std.proofs.KnownBytes.{Keeps-refl}
use Rattle.std.proofs.lemmas.Result.{err_from_is_err_and}
use Rattle.commands.specs.Files.{IsUnstored, Stored, with_store, written_file}
use Rattle.commands.specs.Mount.{IsImageUnmounted, IsMountedAs}
use Rattle.commands.proofs.MountLemmas.{prints, stops, unstored}
use Rattle.commands.proofs.TakenLemmas as taken
use Rattle.commands.proofs.mount_image.mount_command.Goals as goal

pub returns-in_err-asked : goal.returns-in_err-asked
returns-in_err-asked g c =
    let p = err_from_is_err_and c.from_residual.result c.from_residual.ensures.1 in
    record {
      does = stops (g.F.FileStore.gives c.args.files.now) c.args.words _ _ c.from_residual.result c.in_err-asked.field-0.0 (p.1 ∙ ap Err p.2) (refl, Keeps-refl _)
          (inl c.in_err-asked.ensures.fault);
      takes = taken.some _ 0 _ _ c.from_residual.result _ (p.1 ∙ ap Err p.2) (taken.none _);
    }

pub returns-in_err-bytes : goal.returns-in_err-bytes
returns-in_err-bytes g c =
    let p = err_from_is_err_and c.from_residual-in_err-bytes.result c.from_residual-in_err-bytes.ensures.1 in
    let asked = c.in_ok-asked.asked in
    record {
      does = stops (g.F.FileStore.gives c.args.files.now) c.args.words _ _ c.from_residual-in_err-bytes.result c.in_err-bytes.field-0.0 (p.1 ∙ ap Err p.2) (c.in_err-bytes.ensures.stores, Keeps-refl _)
          (inr (inl (record { geometry = asked.geometry; capacity = asked.capacity; asked = c.in_ok-asked.ensures.ok; unread = c.in_err-bytes.ensures.fault })));
      takes = taken.some _ 1 _ _ c.from_residual-in_err-bytes.result _ (p.1 ∙ ap Err p.2) c.in_err-bytes.ensures.taken;
    }

pub returns-in_err-mounted : goal.returns-in_err-mounted
returns-in_err-mounted g c =
    let p = err_from_is_err_and c.from_residual-in_err-mounted.result c.from_residual-in_err-mounted.ensures.1 in
    let asked = c.in_ok-asked.asked in
    let bytes = c.in_ok-bytes.bytes.items in
    let P : List ℕ → Type 0 = λ b. IsImageUnmounted asked.geometry asked.capacity b c.in_err-mounted.field-0.0 in
    record {
      does = stops (g.F.FileStore.gives c.args.files.now) c.args.words _ _ c.from_residual-in_err-mounted.result c.in_err-mounted.field-0.0 (p.1 ∙ ap Err p.2) (c.in_ok-bytes.ensures.stores, Keeps-refl _)
          (inr (inr (record {
            geometry = asked.geometry;
            capacity = asked.capacity;
            bytes = bytes;
            asked = c.in_ok-asked.ensures.ok;
            image = c.in_ok-bytes.ensures.ok;
            unmounted = subst P c.deref.ensures.value c.in_err-mounted.ensures.fault;
          })));
      takes = taken.some _ 1 _ _ c.from_residual-in_err-mounted.result _ (p.1 ∙ ap Err p.2) c.in_ok-bytes.ensures.taken;
    }

pub returns-in_err-store : goal.returns-in_err-store
returns-in_err-store g c =
    let p = err_from_is_err_and c.from_residual-in_err-store.result c.from_residual-in_err-store.ensures.1 in
    let asked = c.in_ok-asked.asked in
    let bytes = c.in_ok-bytes.bytes.items in
    let m = c.in_ok-mounted.mounted in
    let spelled = c.deref-2.result.now in
    let stop = c.in_err-store.field-0.0 in
    let P : List ℕ → Type 0 = λ b. IsMountedAs asked.geometry asked.capacity b m in
    let Q : Option (List Stored) → Type 0 = λ s. IsUnstored c.args.words.certificate.now spelled s (g.F.FileStore.stores c.store.new.files) stop in
    record {
      does = unstored (g.F.FileStore.gives c.args.files.now) c.args.words asked.geometry asked.capacity bytes spelled m _ _ c.from_residual-in_err-store.result stop
          c.in_ok-asked.ensures.ok c.in_ok-bytes.ensures.ok (subst P c.deref.ensures.value c.in_ok-mounted.ensures.ok) c.deref-2.ensures.value (p.1 ∙ ap Err p.2)
          (subst Q c.in_ok-bytes.ensures.stores c.in_err-store.ensures.fault) (Keeps-refl _);
      takes = taken.some _ 1 _ _ c.from_residual-in_err-store.result _ (p.1 ∙ ap Err p.2) (c.in_err-store.ensures.taken ∙ c.in_ok-bytes.ensures.taken);
    }

pub returns : goal.returns
returns g c =
    let asked = c.in_ok-asked.asked in
    let bytes = c.in_ok-bytes.bytes.items in
    let m = c.in_ok-mounted.mounted in
    let spelled = c.deref-2.result.now in
    let P : List ℕ → Type 0 = λ b. IsMountedAs asked.geometry asked.capacity b m in
    let stored = c.in_ok-store.ensures.ok ∙ ap (λ (s : Option (List Stored)). with_store s (written_file c.args.words.certificate.now spelled)) c.in_ok-bytes.ensures.stores in
    record {
      does = prints (g.F.FileStore.gives c.args.files.now) c.args.words asked.geometry asked.capacity bytes spelled m _ _ c.print_mounted.result
          c.in_ok-asked.ensures.ok c.in_ok-bytes.ensures.ok (subst P c.deref.ensures.value c.in_ok-mounted.ensures.ok) c.deref-2.ensures.value
          stored c.print_mounted.ensures.ok c.print_mounted.ensures.fault;
      takes = taken.all _ 1 _ _ c.print_mounted.result refl (c.in_ok-store.ensures.taken ∙ c.in_ok-bytes.ensures.taken);
    }
