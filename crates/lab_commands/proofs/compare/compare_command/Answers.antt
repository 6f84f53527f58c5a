use Rattle.std.proofs.Common.{inl, inr, subst, ◌≡◌, suc, option_map}
use Rattle.lab_commands.specs.Document.{Prints}
use Rattle.lab_commands.proofs.PrintLemmas.{done_by, undone_by}
use Rattle.lab_commands.specs.Reports.{compare_text}
use Rattle.lab_commands.specs.Compare.{IsCompareFault, ToldCompared}
use Rattle.lab_commands.specs.Undone.{form_of_showing}
use Rattle.lab_commands.proofs.UndoneLemmas.{left_all, handed}
use Rattle.lab_commands.proofs.compare.compare_command.Goals as goal

pub returns-in_err-held : goal.returns-in_err-held
returns-in_err-held g c =
    let o = g.W.Output.contents c.args.out.now in
    let a = g.F.LabFiles.answers c.args.files.now in
    rw (handed c.from_residual.result _ c.from_residual.ensures.1) (record {
      ok = tt;
      kept = c.hold.ensures.kept;
      fault = (inl (left_all _ _ o c.in_err-held.ensures.kept, c.in_err-held.ensures.fault));
      opened = tt;
    })

pub returns : goal.returns
returns g c =
    let o = g.W.Output.contents c.args.out.now in
    let a = g.F.LabFiles.answers c.args.files.now in
    let p = g.W.Output.contents c.print_compared.new.out in
    let broke = g.W.Output.failed c.print_compared.new.out in
    let k = g.F.LabFiles.kept c.args.files.now in
    let l = g.F.LabFiles.kept c.hold.new.files in
    let held = c.in_ok-held.held in
    let printed : Prints broke o p (compare_text (form_of_showing c.args.words.showing) held.geometry held.compared) c.print_compared.result =
    subst (λ f. Prints broke o p (compare_text f held.geometry held.compared) c.print_compared.result) c.printer.ensures c.print_compared.ensures in
    record {
      opened = done_by (g.F.LabFiles.opened c.hold.new.files ≡ option_map suc (option_map suc (g.F.LabFiles.opened c.args.files.now))) broke o p _ c.print_compared.result c.ended.result printed c.ended.ensures (λ told. c.in_ok-held.ensures.opened);
      ok = done_by (ToldCompared a c.args.words o p) broke o p _ c.print_compared.result c.ended.result printed c.ended.ensures (λ told. record { g = held.geometry; compared = held.compared; has = c.in_ok-held.ensures.ok; told = told });
      kept = c.in_ok-held.ensures.kept;
      fault =
          undone_by (IsCompareFault a c.args.words k l (g.F.LabFiles.opened c.args.files.now) (g.F.LabFiles.opened c.hold.new.files) broke o p) broke o p _ c.print_compared.result c.ended.result printed c.ended.ensures
          (λ told half. inr (c.in_ok-held.ensures.kept, (held.geometry, held.compared, c.in_ok-held.ensures.ok, half)));
    }
