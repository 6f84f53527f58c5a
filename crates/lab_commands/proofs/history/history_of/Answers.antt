use Rattle.std.proofs.Common.{inl}
use Rattle.lab_commands.proofs.UndoneLemmas.{handed}
use Rattle.lab_commands.proofs.history.history_of.Goals as goal

pub returns-in_err-reader : goal.returns-in_err-reader
returns-in_err-reader g c =
    rw (handed c.from_residual.result _ c.from_residual.ensures.1) (record {
      recalled = tt;
      fault = (inl c.in_err-reader.ensures.fault);
      kept = c.open_file.ensures.kept;
      opened = c.open_file.ensures.opened;
    })
