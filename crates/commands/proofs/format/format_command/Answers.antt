use Rattle.std.proofs.Common.{◌≡◌, ◌∙◌, ℕ, List, Option, Err, Result, ap, refl, subst, sym}
use Rattle.std.proofs.KnownBytes.{Keeps-refl}
use Rattle.std.proofs.lemmas.Result.{err_from_is_err_and}
use Rattle.commands.specs.declared.text.CommandFault.{CommandFault}
use Rattle.commands.specs.Files.{IsUnstored, Stored, left_behind, with_store, written_file}
use Rattle.commands.specs.Format.{DoesFormat, HasInput, IsGeometry, IsImageUnformatted}
use Rattle.commands.proofs.FormatLemmas.{has_formatted, printed_formats, refused_formats, unread_formats, unstored_formats}
use Rattle.commands.proofs.TakenLemmas as taken
use Rattle.commands.proofs.format.format_command.Goals as goal

pub returns-in_err-numbers-clause-takes : goal.returns-in_err-numbers-clause-takes
returns-in_err-numbers-clause-takes g c =
    let p = err_from_is_err_and c.from_residual.result c.from_residual.ensures.1 in
    taken.some _ 0 _ _ c.from_residual.result _ (p.1 ∙ ap Err p.2) (taken.none _)

pub returns-in_err-geometry-clause-takes : goal.returns-in_err-geometry-clause-takes
returns-in_err-geometry-clause-takes g c =
    let p = err_from_is_err_and c.from_residual-in_err-geometry.result c.from_residual-in_err-geometry.ensures.1 in
    taken.some _ 0 _ _ c.from_residual-in_err-geometry.result _ (p.1 ∙ ap Err p.2) (taken.none _)

pub returns-in_err-bytes : goal.returns-in_err-bytes
returns-in_err-bytes g c =
    let p = err_from_is_err_and c.from_residual-in_err-bytes.result c.from_residual-in_err-bytes.ensures.1 in
    let words = c.args.words in
    let asked : IsGeometry words c.in_ok-geometry.geometry = record { numbers = c.in_ok-numbers.numbers; spelled = c.in_ok-numbers.ensures.ok; valid = c.in_ok-geometry.ensures.ok } in
    let before = left_behind (g.F.FileStore.stores c.args.files.now) (g.W.Write.contents c.args.out.now) in
    let after = left_behind (g.F.FileStore.stores c.load.new.files) (g.W.Write.contents c.args.out.now) in
    let is : c.from_residual-in_err-bytes.result ≡ Err c.in_err-bytes.field-0.0 = p.1 ∙ ap Err p.2 in
    let P : Result (Unit {0}) CommandFault → Type 0 = λ r. DoesFormat (g.F.FileStore.gives c.args.files.now) words before after r in
    record {
      does = subst P (sym is) (unread_formats _ words c.in_ok-geometry.geometry before after c.in_err-bytes.field-0.0 asked (c.in_err-bytes.ensures.stores, Keeps-refl _) c.in_err-bytes.ensures.fault);
      takes = taken.some _ 1 _ _ c.from_residual-in_err-bytes.result _ (p.1 ∙ ap Err p.2) c.in_err-bytes.ensures.taken;
    }

pub returns-in_err-good : goal.returns-in_err-good
returns-in_err-good g c =
    let p = err_from_is_err_and c.from_residual-in_err-good.result c.from_residual-in_err-good.ensures.1 in
    let words = c.args.words in
    let geometry = c.in_ok-geometry.geometry in
    let bytes = c.in_ok-bytes.bytes.items in
    let asked : IsGeometry words geometry = record { numbers = c.in_ok-numbers.numbers; spelled = c.in_ok-numbers.ensures.ok; valid = c.in_ok-geometry.ensures.ok } in
    let input : HasInput (g.F.FileStore.gives c.args.files.now) words geometry bytes = record { asked = asked; given = c.in_ok-bytes.ensures.ok } in
    let before = left_behind (g.F.FileStore.stores c.args.files.now) (g.W.Write.contents c.args.out.now) in
    let after = left_behind (g.F.FileStore.stores c.load.new.files) (g.W.Write.contents c.args.out.now) in
    let is : c.from_residual-in_err-good.result ≡ Err c.in_err-good.field-0.0 = p.1 ∙ ap Err p.2 in
    let P : Result (Unit {0}) CommandFault → Type 0 = λ r. DoesFormat (g.F.FileStore.gives c.args.files.now) words before after r in
    record {
      does = subst P (sym is) (refused_formats _ words geometry bytes before after c.in_err-good.field-0.0 input (c.in_ok-bytes.ensures.stores, Keeps-refl _)
          (subst (λ (l : List ℕ). IsImageUnformatted geometry l c.in_err-good.field-0.0) c.deref_mut.ensures.value c.in_err-good.ensures.fault));
      takes = taken.some _ 1 _ _ c.from_residual-in_err-good.result _ (p.1 ∙ ap Err p.2) c.in_ok-bytes.ensures.taken;
    }

pub returns-in_err-store : goal.returns-in_err-store
returns-in_err-store g c =
    let p = err_from_is_err_and c.from_residual-in_err-store.result c.from_residual-in_err-store.ensures.1 in
    let words = c.args.words in
    let gives = g.F.FileStore.gives c.args.files.now in
    let has = has_formatted gives words c.in_ok-numbers.numbers c.in_ok-geometry.geometry _ c.deref_mut.result.now c.format_image.new.image c.deref.result.now c.in_ok-good.good c.in_ok-bytes.bytes.len c.in_ok-numbers.ensures.ok c.in_ok-geometry.ensures.ok
    c.in_ok-bytes.ensures.ok c.deref_mut.ensures.value c.deref.ensures.value (c.format_image.auto.image ∙ c.deref_mut.ensures.len) c.in_ok-good.ensures.ok in
    let before = left_behind (g.F.FileStore.stores c.args.files.now) (g.W.Write.contents c.args.out.now) in
    let after = left_behind (g.F.FileStore.stores c.store.new.files) (g.W.Write.contents c.args.out.now) in
    let is : c.from_residual-in_err-store.result ≡ Err c.in_err-store.field-0.0 = p.1 ∙ ap Err p.2 in
    let P : Result (Unit {0}) CommandFault → Type 0 = λ r. DoesFormat gives words before after r in
    record {
      does = subst P (sym is) (unstored_formats gives words c.deref.result.now c.in_ok-good.good before after c.in_err-store.field-0.0 has (Keeps-refl _)
          (subst (λ (stores : Option (List Stored)). IsUnstored words.output.now c.deref.result.now stores (g.F.FileStore.stores c.store.new.files) c.in_err-store.field-0.0) c.in_ok-bytes.ensures.stores c.in_err-store.ensures.fault));
      takes = taken.some _ 1 _ _ c.from_residual-in_err-store.result _ (p.1 ∙ ap Err p.2) (c.in_err-store.ensures.taken ∙ c.in_ok-bytes.ensures.taken);
    }

pub returns : goal.returns
returns g c =
    let words = c.args.words in
    let gives = g.F.FileStore.gives c.args.files.now in
    let has = has_formatted gives words c.in_ok-numbers.numbers c.in_ok-geometry.geometry _ c.deref_mut.result.now c.format_image.new.image c.deref.result.now c.in_ok-good.good c.in_ok-bytes.bytes.len c.in_ok-numbers.ensures.ok c.in_ok-geometry.ensures.ok
    c.in_ok-bytes.ensures.ok c.deref_mut.ensures.value c.deref.ensures.value (c.format_image.auto.image ∙ c.deref_mut.ensures.len) c.in_ok-good.ensures.ok in
    let stored = c.in_ok-store.ensures.ok ∙ ap (λ (s : Option (List Stored)). with_store s (written_file words.output.now c.deref.result.now)) c.in_ok-bytes.ensures.stores in
    record {
      does = printed_formats gives words c.deref.result.now c.in_ok-good.good _ _ c.print_good.result has stored c.print_good.ensures.ok c.print_good.ensures.fault;
      takes = taken.all _ 1 _ _ c.print_good.result refl (c.in_ok-store.ensures.taken ∙ c.in_ok-bytes.ensures.taken);
    }
