use Rattle.std.proofs.Common.{List, inl, inr, ap, subst, ◌∙◌, ◌≡◌, suc, option_map}
use Rattle.std.proofs.KnownBytes.{Keeps-refl}
use Rattle.lab_correct.specs.declared.correcting.Loss.{Loss}
use Rattle.lab_correct.specs.Map.{loss_map_text}
use Rattle.lab_commands.specs.Document.{Prints}
use Rattle.lab_commands.proofs.PrintLemmas.{done_by, undone_by}
use Rattle.lab_commands.specs.Reports.{correct_text}
use Rattle.lab_commands.specs.Array.{with_map}
use Rattle.lab_commands.specs.Correct.{CorrectionCounts, IsCorrectFault, PutCorrected, WroteCorrected}
use Rattle.lab_commands.specs.Undone.{form_of_showing}
use Rattle.lab_commands.proofs.ArrayLemmas.{unmapped_before}
use Rattle.lab_commands.proofs.UndoneLemmas.{left_all, handed}
use Rattle.lab_commands.proofs.correct.correct_command.Goals as goal

pub returns-in_err-told : goal.returns-in_err-told
returns-in_err-told g c =
    rw (handed c.from_residual.result _ c.from_residual.ensures.1) (record { ok = tt; fault = inl (left_all _ _ (g.W.Output.contents c.args.out.now) c.in_err-told.ensures.kept, c.in_err-told.ensures.fault); opened = tt })

pub returns-in_err-put_map : goal.returns-in_err-put_map
returns-in_err-put_map g c =
    let o = g.W.Output.contents c.args.out.now in
    let a = g.F.LabFiles.answers c.args.files.now in
    let placed = c.in_ok-told.ensures.placed in
    rw (handed c.from_residual-in_err-put_map.result _ c.from_residual-in_err-put_map.ensures.1) (record {
      ok = tt;
      fault = (inr (inl (record { g = c.in_ok-told.told.geometry; pieces = placed.pieces; counts = record { turned = c.in_ok-told.told.turned; touched = c.in_ok-told.told.touched; losses = c.in_ok-told.told.losses.items }; made = placed.made; put = c.in_err-put_map.ensures.kept ∙ placed.put; silent = Keeps-refl o; unmapped = unmapped_before a (g.F.LabFiles.answers c.place.new.files) c.args.words _ c.in_ok-told.ensures.no_more c.in_err-put_map.ensures.fault })));
      opened = tt;
    })

pub returns : goal.returns
returns g c =
    let o = g.W.Output.contents c.args.out.now in
    let a = g.F.LabFiles.answers c.args.files.now in
    let p = g.W.Output.contents c.print_corrected.new.out in
    let broke = g.W.Output.failed c.print_corrected.new.out in
    let k = g.F.LabFiles.kept c.args.files.now in
    let l = g.F.LabFiles.kept c.put_map.new.files in
    let words = c.args.words in
    let made = c.in_ok-told.told in
    let counts : CorrectionCounts = record { turned = made.turned; touched = made.touched; losses = made.losses.items } in
    let placed = c.in_ok-told.ensures.placed in
    let put : PutCorrected a words k l counts = record {
      g = made.geometry;
      pieces = placed.pieces;
      made = placed.made;
      put = c.in_ok-put_map.ensures.ok ∙ (ap (λ (ls : List Loss). with_map (g.F.LabFiles.kept c.place.new.files) words (loss_map_text made.geometry ls)) c.deref.ensures.value
          ∙ ap (λ x. with_map x words (loss_map_text made.geometry counts.losses)) placed.put);
    } in
    let printed : Prints broke o p (correct_text (form_of_showing words.showing) counts.turned counts.touched counts.losses) c.print_corrected.result =
    subst (λ f. Prints broke o p (correct_text f counts.turned counts.touched counts.losses) c.print_corrected.result) c.printer.ensures
    (subst (λ (ls : List Loss). Prints broke o p (correct_text c.printer.result.form counts.turned counts.touched ls) c.print_corrected.result) c.deref-2.ensures.value c.print_corrected.ensures) in
    record {
      opened = done_by (g.F.LabFiles.opened c.put_map.new.files ≡ option_map suc (g.F.LabFiles.opened c.args.files.now)) broke o p _ c.print_corrected.result c.ended.result printed c.ended.ensures (λ told. c.in_ok-put_map.ensures.opened ∙ c.in_ok-told.ensures.opened);
      ok = done_by (WroteCorrected a c.args.words k l o p) broke o p _ c.print_corrected.result c.ended.result printed c.ended.ensures (λ told. record { counts = counts; put = put; told = told });
      fault =
          undone_by (IsCorrectFault a c.args.words k l (g.F.LabFiles.opened c.args.files.now) (g.F.LabFiles.opened c.put_map.new.files) broke o p) broke o p _ c.print_corrected.result c.ended.result printed c.ended.ensures
          (λ told half. inr (inr (counts, put, half)));
    }
