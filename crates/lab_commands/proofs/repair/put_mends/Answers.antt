use Rattle.std.proofs.Common.{refl, inl, inr, ap, ◌∙◌}
use Rattle.lab_commands.specs.Files.{with_kept}
use Rattle.lab_commands.specs.Repair.{told_tries}
use Rattle.lab_commands.specs.declared.text.LabFault.TheVariants as fault
use Rattle.lab_commands.proofs.UndoneLemmas.{unplaced_before, handed}
use Rattle.lab_commands.proofs.repair.put_mends.Goals as goal

pub returns-in_err-room : goal.returns-in_err-room
returns-in_err-room g c =
    rw (handed c.from_residual.result fault.OutOfMemory c.from_residual.ensures.1) (record { put = tt; fault = inl (refl, refl); kept = refl; opened = tt })

pub returns-in_err-repaired : goal.returns-in_err-repaired
returns-in_err-repaired g c =
    let handing = c.from_residual-in_err-repaired in
    rw (handed handing.result _ handing.ensures.1) (record { put = tt; fault = inr (inl c.in_err-repaired.ensures.fault); kept = c.in_err-repaired.ensures.kept; opened = tt })

pub returns-in_err-keep : goal.returns-in_err-keep
returns-in_err-keep g c =
    let words = c.args.words.now in
    let why = unplaced_before (g.F.LabFiles.answers c.args.files.now) (g.F.LabFiles.answers c.mend.new.files) words.out.now words.force c.in_err-keep.field-0.0 c.in_ok-repaired.ensures.no_more c.in_err-keep.ensures.fault in
    let handing = c.from_residual-in_err-keep in
    rw (handed handing.result _ handing.ensures.1) (record { put = tt; fault = inr (inr why); kept = c.in_err-keep.ensures.kept ∙ c.in_ok-repaired.ensures.beside; opened = tt })

pub returns-clause-put : goal.returns-clause-put
returns-clause-put g c =
    let words = c.args.words.now in
    let pieces = g.F.Target.Pieces.pieces c.in_ok-repaired.repaired.target in
    record {
      pieces = pieces;
      made = c.in_ok-repaired.ensures.made;
      put = c.in_ok-keep.ensures.ok ∙ ap (λ x. with_kept x words.out.now pieces words.force) c.in_ok-repaired.ensures.beside;
      tried = c.tries_told-tries.ensures ∙ ap (told_tries c.args.asked.bits c.args.geometry.now) c.deref.ensures.value;
    }

pub returns-clause-opened : goal.returns-clause-opened
returns-clause-opened g c = c.in_ok-keep.ensures.opened ∙ c.in_ok-repaired.ensures.opened
