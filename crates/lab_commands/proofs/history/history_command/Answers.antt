use Rattle.std.proofs.Common.{List, inl, inr, subst, ◌≡◌, suc, option_map}
use Rattle.lab_dump.specs.declared.history.SectorPage.{SectorPage}
use Rattle.lab_commands.specs.Document.{Prints}
use Rattle.lab_commands.proofs.PrintLemmas.{done_by, undone_by}
use Rattle.lab_commands.specs.Reports.{history_text}
use Rattle.lab_commands.specs.History.{IsHistoryFault, ToldHistory}
use Rattle.lab_commands.specs.Undone.{form_of_showing}
use Rattle.lab_commands.proofs.UndoneLemmas.{left_all, handed}
use Rattle.lab_commands.proofs.history.history_command.Goals as goal

pub returns-in_err-found : goal.returns-in_err-found
returns-in_err-found g c =
    let o = g.W.Output.contents c.args.out.now in
    let a = g.F.LabFiles.answers c.args.files.now in
    rw (handed c.from_residual.result _ c.from_residual.ensures.1) (record {
      ok = tt;
      kept = c.recall.ensures.kept;
      fault = (inl (left_all _ _ o c.in_err-found.ensures.kept, c.in_err-found.ensures.fault));
      opened = tt;
    })

pub returns : goal.returns
returns g c =
    let o = g.W.Output.contents c.args.out.now in
    let a = g.F.LabFiles.answers c.args.files.now in
    let p = g.W.Output.contents c.print_history.new.out in
    let broke = g.W.Output.failed c.print_history.new.out in
    let k = g.F.LabFiles.kept c.args.files.now in
    let l = g.F.LabFiles.kept c.recall.new.files in
    let found = c.in_ok-found.found in
    let printed : Prints broke o p (history_text (form_of_showing c.args.words.showing) found.geometry found.history.pages.items found.history.unsound) c.print_history.result =
    subst (λ f. Prints broke o p (history_text f found.geometry found.history.pages.items found.history.unsound) c.print_history.result) c.printer.ensures
    (subst (λ (ps : List SectorPage). Prints broke o p (history_text c.printer.result.form found.geometry ps found.history.unsound) c.print_history.result) c.deref.ensures.value c.print_history.ensures) in
    record {
      opened = done_by (g.F.LabFiles.opened c.recall.new.files ≡ option_map suc (g.F.LabFiles.opened c.args.files.now)) broke o p _ c.print_history.result c.ended.result printed c.ended.ensures (λ told. c.in_ok-found.ensures.opened);
      ok = done_by (ToldHistory a c.args.words o p) broke o p _ c.print_history.result c.ended.result printed c.ended.ensures (λ told. record { g = found.geometry; history = found.history; has = c.in_ok-found.ensures.recalled; told = told });
      kept = c.in_ok-found.ensures.kept;
      fault =
          undone_by (IsHistoryFault a c.args.words k l (g.F.LabFiles.opened c.args.files.now) (g.F.LabFiles.opened c.recall.new.files) broke o p) broke o p _ c.print_history.result c.ended.result printed c.ended.ensures
          (λ told half. inr (c.in_ok-found.ensures.kept, (found.geometry, found.history, c.in_ok-found.ensures.recalled, half)));
    }
