use Rattle.std.proofs.Common.{ℕ, inl, inr, subst, ◌≡◌, suc, option_map}
use Rattle.page_layout.specs.Geometry.{row_count}
use Rattle.lab_commands.specs.Document.{Prints}
use Rattle.lab_commands.proofs.PrintLemmas.{done_by, undone_by}
use Rattle.lab_commands.specs.Reports.{arrange_text}
use Rattle.lab_commands.specs.Arrange.{IsArrangeFault, WroteArranged}
use Rattle.lab_commands.specs.Undone.{form_of_showing}
use Rattle.lab_commands.proofs.UndoneLemmas.{left_all, handed}
use Rattle.lab_commands.proofs.arrange.arrange_command.Goals as goal

pub returns-in_err-geometry : goal.returns-in_err-geometry
returns-in_err-geometry g c =
    let o = g.W.Output.contents c.args.out.now in
    let a = g.F.LabFiles.answers c.args.files.now in
    rw (handed c.from_residual.result _ c.from_residual.ensures.1) (record {
      ok = tt;
      fault = (inl (left_all _ _ o c.in_err-geometry.ensures.kept, c.in_err-geometry.ensures.fault));
      opened = tt;
    })

pub returns : goal.returns
returns g c =
    let o = g.W.Output.contents c.args.out.now in
    let a = g.F.LabFiles.answers c.args.files.now in
    let p = g.W.Output.contents c.print_arranged.new.out in
    let broke = g.W.Output.failed c.print_arranged.new.out in
    let k = g.F.LabFiles.kept c.args.files.now in
    let l = g.F.LabFiles.kept c.place.new.files in
    let printed : Prints broke o p (arrange_text (form_of_showing c.args.words.showing) (row_count c.in_ok-geometry.geometry)) c.print_arranged.result =
    subst (λ f. Prints broke o p (arrange_text f (row_count c.in_ok-geometry.geometry)) c.print_arranged.result) c.printer.ensures
    (subst (λ (n : ℕ). Prints broke o p (arrange_text c.printer.result.form n) c.print_arranged.result) c.rows.ensures c.print_arranged.ensures) in
    record {
      opened = done_by (g.F.LabFiles.opened c.place.new.files ≡ option_map suc (g.F.LabFiles.opened c.args.files.now)) broke o p _ c.print_arranged.result c.ended.result printed c.ended.ensures (λ told. c.in_ok-geometry.ensures.opened);
      ok = done_by (WroteArranged a c.args.words k l o p) broke o p _ c.print_arranged.result c.ended.result printed c.ended.ensures (λ told. record { g = c.in_ok-geometry.geometry; put = c.in_ok-geometry.ensures.placed; told = told });
      fault =
          undone_by (IsArrangeFault a c.args.words k l (g.F.LabFiles.opened c.args.files.now) (g.F.LabFiles.opened c.place.new.files) broke o p) broke o p _ c.print_arranged.result c.ended.result printed c.ended.ensures
          (λ told half. inr (c.in_ok-geometry.geometry, c.in_ok-geometry.ensures.placed, c.in_ok-geometry.ensures.opened, half));
    }
