use Rattle.std.proofs.Common.{List, [], ◌∷◌, Some, refl, inl, inr, ap, ◌∙◌}
use Rattle.lab_dump.specs.declared.map_head.Remark.TheVariants as remark
use Rattle.lab_dump.specs.declared.mark.MapMark.{MapMark}
use Rattle.lab_dump.specs.Map.{map_text}
use Rattle.lab_commands.specs.Files.{with_kept}
use Rattle.lab_commands.specs.declared.text.LabFault.TheVariants as fault
use Rattle.lab_commands.proofs.UndoneLemmas.{unplaced_before, handed}
use Rattle.lab_commands.proofs.origin.put_marks.Goals as goal

pub returns-in_err-room : goal.returns-in_err-room
returns-in_err-room g c =
    rw (handed c.from_residual.result fault.OutOfMemory c.from_residual.ensures.1) (record { put = tt; fault = inl (refl, refl); kept = refl; opened = tt })

pub returns-in_err-marks : goal.returns-in_err-marks
returns-in_err-marks g c =
    let handing = c.from_residual-in_err-marks in
    rw (handed handing.result _ handing.ensures.1) (record { put = tt; fault = inr (inl c.in_err-marks.ensures.fault); kept = c.follow.ensures.kept; opened = tt })

pub returns-in_err-put_origin : goal.returns-in_err-put_origin
returns-in_err-put_origin g c =
    let words = c.args.words.now in
    let why = unplaced_before (g.F.LabFiles.answers c.args.files.now) (g.F.LabFiles.answers c.follow.new.files) words.out.now words.force c.in_err-put_origin.field-0.0 c.follow.ensures.no_more c.in_err-put_origin.ensures.fault in
    let handing = c.from_residual-in_err-put_origin in
    rw (handed handing.result _ handing.ensures.1) (record { put = tt; fault = inr (inr why); kept = c.in_err-put_origin.ensures.kept ∙ c.follow.ensures.kept; opened = tt })

pub returns-clause-put : goal.returns-clause-put
returns-clause-put g c =
    let words = c.args.words.now in
    let geometry = c.args.geometry.now in
    let marks = c.in_ok-marks.marks.items in
    record {
      followed = c.in_ok-marks.ensures.followed;
      put = c.in_ok-put_origin.ensures.ok
          ∙ (ap (λ (ms : List MapMark). with_kept (g.F.LabFiles.kept c.follow.new.files) words.out.now (Some (map_text remark.Readings geometry ms ∷ [])) words.force) c.deref.ensures.value
          ∙ ap (λ x. with_kept x words.out.now (Some (map_text remark.Readings geometry marks ∷ [])) words.force) c.follow.ensures.kept);
    }
