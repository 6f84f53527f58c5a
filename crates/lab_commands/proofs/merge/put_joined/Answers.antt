use Rattle.std.proofs.Common.{refl, inl, inr, le_refl, length, ap, ◌∙◌}
use Rattle.lab_commands.specs.Files.{with_kept}
use Rattle.lab_commands.specs.declared.text.LabFault.TheVariants as fault
use Rattle.lab_commands.proofs.UndoneLemmas.{unplaced_before, handed}
use Rattle.lab_commands.proofs.merge.put_joined.Goals as goal

pub returns-in_err-room : goal.returns-in_err-room
returns-in_err-room g c =
    rw (handed c.from_residual.result fault.OutOfMemory c.from_residual.ensures.1) (record { put = tt; fault = inl (refl, refl); kept = refl; opened = tt })

pub returns-in_err-merged : goal.returns-in_err-merged
returns-in_err-merged g c =
    let handing = c.from_residual-in_err-merged in
    rw (handed handing.result _ handing.ensures.1) (record { put = tt; fault = inr (c.in_err-merged.ensures.some, inl c.in_err-merged.ensures.fault); kept = c.in_err-merged.ensures.kept; opened = tt })

pub returns-in_err-keep : goal.returns-in_err-keep
returns-in_err-keep g c =
    let words = c.args.words.now in
    let why = unplaced_before (g.F.LabFiles.answers c.args.files.now) (g.F.LabFiles.answers c.join.new.files) words.out.now words.force c.in_err-keep.field-0.0 c.in_ok-merged.ensures.no_more c.in_err-keep.ensures.fault in
    let handing = c.from_residual-in_err-keep in
    rw (handed handing.result _ handing.ensures.1) (record { put = tt; fault = inr ((length words.dumps.items, le_refl _, c.keep.ensures.opened ∙ c.in_ok-merged.ensures.opened), inr why); kept = c.in_err-keep.ensures.kept ∙ c.in_ok-merged.ensures.beside; opened = tt })

pub returns-clause-put : goal.returns-clause-put
returns-clause-put g c =
    let words = c.args.words.now in
    let pieces = g.F.Target.Pieces.pieces c.in_ok-merged.merged.target in
    record {
      pieces = pieces;
      made = c.in_ok-merged.ensures.made;
      put = c.in_ok-keep.ensures.ok ∙ ap (λ x. with_kept x words.out.now pieces words.force) c.in_ok-merged.ensures.beside;
    }

pub returns-clause-opened : goal.returns-clause-opened
returns-clause-opened g c = c.in_ok-keep.ensures.opened ∙ c.in_ok-merged.ensures.opened
