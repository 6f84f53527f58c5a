use Rattle.std.proofs.Common.{refl, inl, inr, ap, ◌∙◌}
use Rattle.lab_commands.specs.Files.{with_kept}
use Rattle.lab_commands.specs.declared.text.LabFault.TheVariants as fault
use Rattle.lab_commands.proofs.HandedLemmas.{err_more, on_err_more, on_ok_more}
use Rattle.lab_commands.proofs.UndoneLemmas.{unplaced_before, handed}
use Rattle.lab_commands.proofs.arrange.place_in_order.Goals as goal

pub returns-in_err-room : goal.returns-in_err-room
returns-in_err-room g c =
    rw (handed c.from_residual.result fault.OutOfMemory c.from_residual.ensures.1) (record { put = tt; fault = inl (refl, refl); kept = refl; opened = tt })

pub returns-in_err-target : goal.returns-in_err-target
returns-in_err-target g c =
    let handing = c.from_residual-in_err-target in
    rw (handed handing.result _ handing.ensures.1) (record { put = tt; fault = inr (c.put_in_order.ensures.opened, inl c.in_err-target.ensures.fault); kept = c.in_err-target.ensures.kept; opened = tt })

pub returns : goal.returns
returns g c =
    let words = c.args.words.now in
    let made = c.in_ok-target.ensures in
    let pieces = g.F.Target.Pieces.pieces c.in_ok-target.target in
    record {
      put = on_ok_more _ _ c.keep.result c.keep.ensures.ok (λ is. record { pieces = pieces; made = made.made; put = is ∙ ap (λ x. with_kept x words.out.now pieces words.force) made.beside });
      fault = err_more _ _ c.keep.result c.keep.ensures.fault (λ told why. inr (c.keep.ensures.opened ∙ made.opened, inr (unplaced_before (g.F.LabFiles.answers c.args.files.now) (g.F.LabFiles.answers c.put_in_order.new.files) words.out.now words.force told made.no_more why)));
      opened = on_ok_more _ _ c.keep.result c.keep.ensures.ok (λ is. c.keep.ensures.opened ∙ made.opened);
      kept = on_err_more _ _ c.keep.result c.keep.ensures.kept (λ is. is ∙ made.beside);
    }
