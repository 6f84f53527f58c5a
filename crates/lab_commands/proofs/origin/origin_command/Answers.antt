use Rattle.std.proofs.Common.{List, inl, inr, subst, ◌≡◌, length, suc, option_map}
use Rattle.lab_dump.specs.declared.mark.MapMark.{MapMark}
use Rattle.lab_commands.specs.Document.{Prints}
use Rattle.lab_commands.specs.Files.{after_opens}
use Rattle.lab_commands.proofs.PrintLemmas.{done_by, undone_by}
use Rattle.lab_commands.specs.Reports.{origin_text}
use Rattle.lab_commands.specs.Origin.{IsOriginFault, WroteOrigin}
use Rattle.lab_commands.specs.Undone.{form_of_showing}
use Rattle.lab_commands.proofs.UndoneLemmas.{left_all, handed}
use Rattle.lab_commands.proofs.origin.origin_command.Goals as goal

pub returns-in_err-marks : goal.returns-in_err-marks
returns-in_err-marks g c =
    let o = g.W.Output.contents c.args.out.now in
    let a = g.F.LabFiles.answers c.args.files.now in
    rw (handed c.from_residual.result _ c.from_residual.ensures.1) (record {
      ok = tt;
      fault = (inl (left_all _ _ o c.in_err-marks.ensures.kept, c.in_err-marks.ensures.fault));
      opened = tt;
    })

pub returns : goal.returns
returns g c =
    let o = g.W.Output.contents c.args.out.now in
    let a = g.F.LabFiles.answers c.args.files.now in
    let p = g.W.Output.contents c.print_origin.new.out in
    let broke = g.W.Output.failed c.print_origin.new.out in
    let k = g.F.LabFiles.kept c.args.files.now in
    let l = g.F.LabFiles.kept c.place.new.files in
    let marks = c.in_ok-marks.marks.items in
    let put = c.in_ok-marks.ensures.placed in
    let printed : Prints broke o p (origin_text (form_of_showing c.args.words.showing) marks) c.print_origin.result =
    subst (λ f. Prints broke o p (origin_text f marks) c.print_origin.result) c.printer.ensures
    (subst (λ (ms : List MapMark). Prints broke o p (origin_text c.printer.result.form ms) c.print_origin.result) c.deref.ensures.value c.print_origin.ensures) in
    record {
      opened = done_by (g.F.LabFiles.opened c.place.new.files ≡ after_opens (length c.args.words.readings.items) (option_map suc (g.F.LabFiles.opened c.args.files.now))) broke o p _ c.print_origin.result c.ended.result printed c.ended.ensures (λ told. c.in_ok-marks.ensures.opened);
      ok = done_by (WroteOrigin a c.args.words k l o p) broke o p _ c.print_origin.result c.ended.result printed c.ended.ensures (λ told. record { g = put.g; last = put.last; marks = marks; put = put.put; told = told });
      fault =
          undone_by (IsOriginFault a c.args.words k l (g.F.LabFiles.opened c.args.files.now) (g.F.LabFiles.opened c.place.new.files) broke o p) broke o p _ c.print_origin.result c.ended.result printed c.ended.ensures
          (λ told half. inr (put.g, put.last, marks, put.put, half));
    }
