use Rattle.std.proofs.Common.{refl, inl, inr, ap, ◌∙◌}
use Rattle.lab_commands.specs.Files.{with_kept}
use Rattle.lab_commands.specs.declared.text.LabFault.TheVariants as fault
use Rattle.lab_commands.proofs.UndoneLemmas.{no_more_then, unplaced_before, handed}
use Rattle.lab_commands.proofs.array.put_sectors.Goals as goal

pub returns-in_err-room : goal.returns-in_err-room
returns-in_err-room g c =
    rw (handed c.from_residual.result fault.OutOfMemory c.from_residual.ensures.1) (record { put = tt; sized = tt; fault = inl (refl, refl); no_more = tt; kept = refl; opened = tt })

pub returns-in_err-written : goal.returns-in_err-written
returns-in_err-written g c =
    let handing = c.from_residual-in_err-written in
    rw (handed handing.result _ handing.ensures.1) (record { put = tt; sized = tt; fault = inr (inl c.in_err-written.ensures.fault); no_more = tt; kept = c.in_err-written.ensures.kept; opened = tt })

pub returns-in_err-keep : goal.returns-in_err-keep
returns-in_err-keep g c =
    let words = c.args.words.now in
    let why = unplaced_before (g.F.LabFiles.answers c.args.files.now) (g.F.LabFiles.answers c.make.new.files) words.out.now words.force c.in_err-keep.field-0.0 c.in_ok-written.ensures.no_more c.in_err-keep.ensures.fault in
    let handing = c.from_residual-in_err-keep in
    rw (handed handing.result _ handing.ensures.1) (record { put = tt; sized = tt; fault = inr (inr why); no_more = tt; kept = c.in_err-keep.ensures.kept ∙ c.in_ok-written.ensures.beside; opened = tt })

pub returns-clause-put : goal.returns-clause-put
returns-clause-put g c =
    let words = c.args.words.now in
    let pieces = g.F.Target.Pieces.pieces c.in_ok-written.written.target in
    record {
      pieces = pieces;
      made = c.in_ok-written.ensures.made;
      put = c.in_ok-keep.ensures.ok ∙ ap (λ x. with_kept x words.out.now pieces words.force) c.in_ok-written.ensures.beside;
    }

pub returns-clause-no_more : goal.returns-clause-no_more
returns-clause-no_more g c = no_more_then _ _ _ c.in_ok-written.ensures.no_more c.in_ok-keep.ensures.no_more

pub returns-clause-opened : goal.returns-clause-opened
returns-clause-opened g c = c.in_ok-keep.ensures.opened ∙ c.in_ok-written.ensures.opened
