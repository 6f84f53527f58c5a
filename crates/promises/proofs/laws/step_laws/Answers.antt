use Rattle.promises.proofs.StepLemmas.{one_read, read_back, trimmed, quiet, kept, read_only, sector_count, never, as_many}
use Rattle.promises.proofs.laws.step_laws.Goals as goal

pub returns : goal.returns
returns c = record { one_read = one_read; read_back = read_back; trimmed = trimmed; quiet = quiet; kept = kept; read_only = read_only; sector_count = sector_count; never = never; as_many = as_many }
