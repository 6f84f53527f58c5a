use Rattle.std.proofs.Common.{refl, inl, inr}
use Rattle.lab_commands.specs.declared.text.LabFault.TheVariants as fault
use Rattle.lab_commands.proofs.UndoneLemmas.{handed}
use Rattle.lab_commands.proofs.survey.see.Goals as goal

pub returns-in_err-geometry : goal.returns-in_err-geometry
returns-in_err-geometry g c =
    rw (handed c.from_residual.result _ c.from_residual.ensures.1) (record {
      seen = tt;
      fault = (inl c.in_err-geometry.ensures.fault);
      kept = refl;
      opened = tt;
    })

pub returns-in_err-rows : goal.returns-in_err-rows
returns-in_err-rows g c =
    rw (handed c.from_residual-in_err-rows.result _ c.from_residual-in_err-rows.ensures.1) (record {
      seen = tt;
      fault = (inr (c.in_ok-geometry.geometry, c.in_ok-geometry.ensures.ok, inl c.in_err-rows.ensures.fault));
      kept = refl;
      opened = tt;
    })

pub returns-in_err-room : goal.returns-in_err-room
returns-in_err-room g c =
    rw (handed c.from_residual-in_err-room.result fault.OutOfMemory c.from_residual-in_err-room.ensures.1) (record {
      seen = tt;
      fault = (inr (c.in_ok-geometry.geometry, c.in_ok-geometry.ensures.ok, inr (c.in_ok-rows.rows, c.in_ok-rows.ensures.ok, inl (refl, refl))));
      kept = refl;
      opened = tt;
    })

pub returns-in_err-survey : goal.returns-in_err-survey
returns-in_err-survey g c =
    rw (handed c.from_residual-in_err-survey.result _ c.from_residual-in_err-survey.ensures.1) (record {
      seen = tt;
      fault = (inr (c.in_ok-geometry.geometry, c.in_ok-geometry.ensures.ok, inr (c.in_ok-rows.rows, c.in_ok-rows.ensures.ok, inr c.in_err-survey.ensures.fault)));
      kept = c.survey_of.ensures.kept;
      opened = tt;
    })
