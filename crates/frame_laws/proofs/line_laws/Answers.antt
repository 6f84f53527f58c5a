use Rattle.frame_laws.proofs.LineLemmas.{part, sent}
use Rattle.frame_laws.proofs.line_laws.Goals as goal

pub returns : goal.returns
returns c = record { part = part; sent = sent }
