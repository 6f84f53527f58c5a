use Rattle.std.proofs.Common.{ℕ, List, inl, inr, subst, ◌≡◌, suc, option_map}
use Rattle.lab_mend.specs.declared.repairing.Mend.{Mend}
use Rattle.lab_commands.specs.Document.{Prints}
use Rattle.lab_commands.proofs.PrintLemmas.{done_by, undone_by}
use Rattle.lab_commands.specs.Reports.{repair_text}
use Rattle.lab_commands.specs.Repair.{IsRepairFault, WroteRepair, told_tries}
use Rattle.lab_commands.specs.Undone.{form_of_showing}
use Rattle.lab_commands.proofs.UndoneLemmas.{left_all, handed}
use Rattle.lab_commands.proofs.repair.repair_command.Goals as goal

pub returns-in_err-mended : goal.returns-in_err-mended
returns-in_err-mended g c =
    rw (handed c.from_residual.result _ c.from_residual.ensures.1) (record { ok = tt; fault = inl (left_all _ _ (g.W.Output.contents c.args.out.now) c.in_err-mended.ensures.kept, c.in_err-mended.ensures.fault); opened = tt })

pub returns : goal.returns
returns g c =
    let o = g.W.Output.contents c.args.out.now in
    let a = g.F.LabFiles.answers c.args.files.now in
    let p = g.W.Output.contents c.print_repaired.new.out in
    let broke = g.W.Output.failed c.print_repaired.new.out in
    let k = g.F.LabFiles.kept c.args.files.now in
    let l = g.F.LabFiles.kept c.put_mended.new.files in
    let mends = c.in_ok-mended.mended.mends.items in
    let has = c.in_ok-mended.ensures.put in
    let printed : Prints broke o p (repair_text (form_of_showing c.args.words.showing) (told_tries has.put.bits has.put.g mends) mends) c.print_repaired.result =
    subst (λ f. Prints broke o p (repair_text f (told_tries has.put.bits has.put.g mends) mends) c.print_repaired.result) c.printer.ensures
    (subst (λ (n : ℕ). Prints broke o p (repair_text c.printer.result.form n mends) c.print_repaired.result) has.tried
    (subst (λ (ms : List Mend). Prints broke o p (repair_text c.printer.result.form c.in_ok-mended.mended.tries ms) c.print_repaired.result) c.deref.ensures.value c.print_repaired.ensures)) in
    record {
      opened = done_by (g.F.LabFiles.opened c.put_mended.new.files ≡ option_map suc (g.F.LabFiles.opened c.args.files.now)) broke o p _ c.print_repaired.result c.ended.result printed c.ended.ensures (λ told. c.in_ok-mended.ensures.opened);
      ok = done_by (WroteRepair a c.args.words k l o p) broke o p _ c.print_repaired.result c.ended.result printed c.ended.ensures (λ told. record { mends = mends; put = has.put; told = told });
      fault =
          undone_by (IsRepairFault a c.args.words k l (g.F.LabFiles.opened c.args.files.now) (g.F.LabFiles.opened c.put_mended.new.files) broke o p) broke o p _ c.print_repaired.result c.ended.result printed c.ended.ensures
          (λ told half. inr (mends, has.put, half));
    }
