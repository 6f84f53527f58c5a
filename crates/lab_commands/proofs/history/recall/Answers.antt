use Rattle.std.proofs.Common.{refl, inl, inr}
use Rattle.lab_commands.specs.declared.text.LabFault.TheVariants as fault
use Rattle.lab_commands.proofs.UndoneLemmas.{handed}
use Rattle.lab_commands.proofs.history.recall.Goals as goal

pub returns-in_err-geometry : goal.returns-in_err-geometry
returns-in_err-geometry g c =
    rw (handed c.from_residual.result _ c.from_residual.ensures.1) (record {
      recalled = tt;
      fault = (inl c.in_err-geometry.ensures.fault);
      kept = refl;
      opened = tt;
    })

pub returns-in_err-sector : goal.returns-in_err-sector
returns-in_err-sector g c =
    rw (handed c.from_residual-in_err-sector.result _ c.from_residual-in_err-sector.ensures.1) (record {
      recalled = tt;
      fault = (inr (c.in_ok-geometry.geometry, c.in_ok-geometry.ensures.ok, inl c.in_err-sector.ensures.fault));
      kept = refl;
      opened = tt;
    })

pub returns-in_err-room : goal.returns-in_err-room
returns-in_err-room g c =
    rw (handed c.from_residual-in_err-room.result fault.OutOfMemory c.from_residual-in_err-room.ensures.1) (record {
      recalled = tt;
      fault = (inr (c.in_ok-geometry.geometry, c.in_ok-geometry.ensures.ok, inr (c.in_ok-sector.sector, c.in_ok-sector.ensures.ok, inl (refl, refl))));
      kept = refl;
      opened = tt;
    })

pub returns-in_err-history : goal.returns-in_err-history
returns-in_err-history g c =
    rw (handed c.from_residual-in_err-history.result _ c.from_residual-in_err-history.ensures.1) (record {
      recalled = tt;
      fault = (inr (c.in_ok-geometry.geometry, c.in_ok-geometry.ensures.ok, inr (c.in_ok-sector.sector, c.in_ok-sector.ensures.ok, inr c.in_err-history.ensures.fault)));
      kept = c.history_of.ensures.kept;
      opened = tt;
    })
