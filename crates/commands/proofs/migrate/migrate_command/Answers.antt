use Rattle.std.proofs.Common.{◌≡◌, ◌∙◌, Err, List, Option, ap, inl, inr, refl, subst}
use Rattle.std.proofs.KnownBytes.{Keeps-refl}
use Rattle.std.proofs.lemmas.Result.{err_from_is_err_and}
use Rattle.page_layout.specs.Flash.{Flash}
use Rattle.commands.specs.Files.{Stored, with_store, written_file}
use Rattle.commands.specs.Migrate.{EndsShort, IsUnmigratedDie}
use Rattle.commands.proofs.FormatLemmas.{kept_whole}
use Rattle.commands.proofs.MigrateEnds.{falls_short, has_migrated, no_device, prints, stops}
use Rattle.commands.proofs.TakenLemmas as taken
use Rattle.commands.proofs.migrate.migrate_command.Goals as goal

pub returns-in_err-claimed : goal.returns-in_err-claimed
returns-in_err-claimed g c =
    let p = err_from_is_err_and c.from_residual.result c.from_residual.ensures.1 in
    record {
      does = stops (g.F.FileStore.gives c.args.files.now) c.args.words _ _ c.from_residual.result c.in_err-claimed.field-0.0 (p.1 ∙ ap Err p.2) (c.in_err-claimed.ensures.stores, Keeps-refl _)
          (inl c.in_err-claimed.ensures.fault);
      takes = taken.some _ c.in_err-claimed.ensures.takes.0 _ _ c.from_residual.result _ (p.1 ∙ ap Err p.2) c.in_err-claimed.ensures.takes.1;
    }

pub returns-in_err-driver : goal.returns-in_err-driver
returns-in_err-driver g c =
    let p = err_from_is_err_and c.from_residual-in_err-driver.result c.from_residual-in_err-driver.ensures.1 in
    record {
      does = stops (g.F.FileStore.gives c.args.files.now) c.args.words _ _ c.from_residual-in_err-driver.result c.in_err-driver.field-0.0 (p.1 ∙ ap Err p.2) (c.in_ok-claimed.ensures.stores, Keeps-refl _)
          (no_device c.in_err-driver.field-0.0 c.in_ok-claimed.ensures.ok (inl c.in_err-driver.ensures.fault));
      takes = taken.some _ 2 _ _ c.from_residual-in_err-driver.result _ (p.1 ∙ ap Err p.2) c.in_ok-claimed.ensures.takes;
    }

pub returns-in_err-came : goal.returns-in_err-came
returns-in_err-came g c =
    let asked = c.in_ok-claimed.claimed.asked in
    let stop = c.in_err-came.field-0.0 in
    let p = err_from_is_err_and c.from_residual-in_err-came.result c.from_residual-in_err-came.ensures.1 in
    let P : Flash → Type 0 = λ f. IsUnmigratedDie asked.geometry asked.capacity c.in_ok-claimed.claimed.certificate f stop in
    record {
      does = stops (g.F.FileStore.gives c.args.files.now) c.args.words _ _ c.from_residual-in_err-came.result stop (p.1 ∙ ap Err p.2) (c.in_ok-claimed.ensures.stores, Keeps-refl _)
          (no_device stop c.in_ok-claimed.ensures.ok (inr (c.in_ok-driver.ensures.whole, subst P c.in_ok-driver.ensures.held c.in_err-came.ensures.fault)));
      takes = taken.some _ 2 _ _ c.from_residual-in_err-came.result _ (p.1 ∙ ap Err p.2) c.in_ok-claimed.ensures.takes;
    }

pub returns-in_err-count : goal.returns-in_err-count
returns-in_err-count g c =
    let stop = c.in_err-count.field-0.0 in
    let came = c.in_ok-came.came in
    let image = c.deref.result.now in
    let kept = c.deref.ensures.value ∙ kept_whole c.in_ok-claimed.claimed.bytes.len c.migrate_die.new.image c.in_ok-claimed.claimed.bytes.items (c.migrate_die.auto.image ∙ c.deref_mut.ensures.len) in
    let has = has_migrated image came c.in_ok-claimed.ensures.ok c.in_ok-driver.ensures.held kept c.in_ok-came.ensures.ok in
    let E : Option (List Stored) → Type 0 = λ stores. EndsShort c.args.words.output.now image came stores (g.F.FileStore.stores c.finish.new.files) stop in
    let p = err_from_is_err_and c.from_residual-in_err-count.result c.from_residual-in_err-count.ensures.1 in
    record {
      does = falls_short (g.F.FileStore.gives c.args.files.now) c.args.words _ _ c.from_residual-in_err-count.result stop image came (p.1 ∙ ap Err p.2) has
          (subst E c.in_ok-claimed.ensures.stores c.in_err-count.ensures.short) (Keeps-refl _);
      takes = taken.some _ 2 _ _ c.from_residual-in_err-count.result _ (p.1 ∙ ap Err p.2) (c.in_err-count.ensures.taken ∙ c.in_ok-claimed.ensures.takes);
    }

pub returns : goal.returns
returns g c =
    let image = c.deref.result.now in
    let kept = c.deref.ensures.value ∙ kept_whole c.in_ok-claimed.claimed.bytes.len c.migrate_die.new.image c.in_ok-claimed.claimed.bytes.items (c.migrate_die.auto.image ∙ c.deref_mut.ensures.len) in
    let has = has_migrated image c.in_ok-came.came c.in_ok-claimed.ensures.ok c.in_ok-driver.ensures.held kept c.in_ok-came.ensures.ok in
    let stored = c.in_ok-count.ensures.done.1 ∙ ap (λ (s : Option (List Stored)). with_store s (written_file c.args.words.output.now image)) c.in_ok-claimed.ensures.stores in
    record {
      does = prints (g.F.FileStore.gives c.args.files.now) c.args.words _ _ c.print_migrated.result image c.in_ok-count.count c.in_ok-came.came c.in_ok-count.ensures.done.0 has
          stored c.print_migrated.ensures.ok c.print_migrated.ensures.fault;
      takes = taken.all _ 2 _ _ c.print_migrated.result refl (c.in_ok-count.ensures.taken ∙ c.in_ok-claimed.ensures.takes);
    }
