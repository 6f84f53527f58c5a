use Rattle.std.proofs.Common.{ℕ, List, inl, inr, subst, ◌≡◌, length}
use Rattle.lab_mend.specs.declared.merging.TriedRow.{TriedRow}
use Rattle.lab_commands.specs.Document.{Prints}
use Rattle.lab_commands.specs.Files.{after_opens}
use Rattle.lab_commands.proofs.PrintLemmas.{done_by, undone_by}
use Rattle.lab_commands.specs.Reports.{merge_text}
use Rattle.lab_commands.specs.Merge.{IsMergeFault, WroteMerge}
use Rattle.lab_commands.specs.Undone.{form_of_showing}
use Rattle.lab_commands.proofs.UndoneLemmas.{left_all, handed}
use Rattle.lab_commands.proofs.merge.merge_command.Goals as goal

pub returns-in_err-told : goal.returns-in_err-told
returns-in_err-told g c =
    rw (handed c.from_residual.result _ c.from_residual.ensures.1) (record { ok = tt; fault = inl (left_all _ _ (g.W.Output.contents c.args.out.now) c.in_err-told.ensures.kept, c.in_err-told.ensures.fault); opened = tt })

pub returns : goal.returns
returns g c =
    let o = g.W.Output.contents c.args.out.now in
    let a = g.F.LabFiles.answers c.args.files.now in
    let p = g.W.Output.contents c.print_merged.new.out in
    let broke = g.W.Output.failed c.print_merged.new.out in
    let k = g.F.LabFiles.kept c.args.files.now in
    let l = g.F.LabFiles.kept c.place.new.files in
    let made = c.in_ok-told.told in
    let printed : Prints broke o p (merge_text (form_of_showing c.args.words.showing) made.conflicts.items made.unsound.items made.tried.items made.tally) c.print_merged.result =
    subst (λ f. Prints broke o p (merge_text f made.conflicts.items made.unsound.items made.tried.items made.tally) c.print_merged.result) c.printer.ensures
    (subst (λ (rows : List TriedRow). Prints broke o p (merge_text c.printer.result.form made.conflicts.items made.unsound.items rows made.tally) c.print_merged.result) c.deref-3.ensures.value
    (subst (λ (rows : List ℕ). Prints broke o p (merge_text c.printer.result.form made.conflicts.items rows c.deref-3.result.now made.tally) c.print_merged.result) c.deref-2.ensures.value
    (subst (λ (rows : List ℕ). Prints broke o p (merge_text c.printer.result.form rows c.deref-2.result.now c.deref-3.result.now made.tally) c.print_merged.result) c.deref.ensures.value c.print_merged.ensures))) in
    record {
      opened = done_by (g.F.LabFiles.opened c.place.new.files ≡ after_opens (length c.args.words.dumps.items) (g.F.LabFiles.opened c.args.files.now)) broke o p _ c.print_merged.result c.ended.result printed c.ended.ensures (λ told. c.in_ok-told.ensures.opened);
      ok =
          done_by (WroteMerge a c.args.words k l o p) broke o p _ c.print_merged.result c.ended.result printed c.ended.ensures
          (λ told. record { conflicts = made.conflicts.items; unsound = made.unsound.items; tried = made.tried.items; tally = made.tally; put = c.in_ok-told.ensures.placed; told = told });
      fault =
          undone_by (IsMergeFault a c.args.words k l (g.F.LabFiles.opened c.args.files.now) (g.F.LabFiles.opened c.place.new.files) broke o p) broke o p _ c.print_merged.result c.ended.result printed c.ended.ensures
          (λ told half. inr (made.conflicts.items, made.unsound.items, made.tried.items, made.tally, c.in_ok-told.ensures.placed, c.in_ok-told.ensures.opened, half));
    }
