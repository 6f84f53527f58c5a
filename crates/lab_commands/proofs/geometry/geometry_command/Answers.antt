use Rattle.std.proofs.Common.{inr, subst, ◌≡◌, suc, option_map}
use Rattle.lab_commands.specs.Document.{Prints}
use Rattle.lab_commands.proofs.PrintLemmas.{done_by, undone_by}
use Rattle.lab_commands.specs.Geometry.{IsGeometryFault, ToldFits, fitting_text}
use Rattle.lab_commands.specs.Undone.{form_of_showing}
use Rattle.lab_commands.proofs.geometry.geometry_command.Goals as goal

pub returns : goal.returns
returns g c =
    let o = g.W.Output.contents c.args.out.now in
    let a = g.F.LabFiles.answers c.args.files.now in
    let p = g.W.Output.contents c.print_fitting.new.out in
    let broke = g.W.Output.failed c.print_fitting.new.out in
    let k = g.F.LabFiles.kept c.args.files.now in
    let l = g.F.LabFiles.kept c.find_fits.new.files in
    let fitting = c.in_ok-fitting.fitting in
    let printed : Prints broke o p (fitting_text (form_of_showing c.args.words.showing) fitting) c.print_fitting.result =
    subst (λ f. Prints broke o p (fitting_text f fitting) c.print_fitting.result) c.printer.ensures c.print_fitting.ensures in
    record {
      opened = done_by (g.F.LabFiles.opened c.find_fits.new.files ≡ option_map suc (g.F.LabFiles.opened c.args.files.now)) broke o p _ c.print_fitting.result c.ended.result printed c.ended.ensures (λ told. c.in_ok-fitting.ensures.opened);
      ok = done_by (ToldFits a c.args.words o p) broke o p _ c.print_fitting.result c.ended.result printed c.ended.ensures (λ told. record { fitting = fitting; found = c.in_ok-fitting.ensures.found; told = told });
      kept = c.in_ok-fitting.ensures.kept;
      fault =
          undone_by (IsGeometryFault a c.args.words k l (g.F.LabFiles.opened c.args.files.now) (g.F.LabFiles.opened c.find_fits.new.files) broke o p) broke o p _ c.print_fitting.result c.ended.result printed c.ended.ensures
          (λ told half. inr (c.in_ok-fitting.ensures.kept, (fitting, c.in_ok-fitting.ensures.found, half)));
    }
