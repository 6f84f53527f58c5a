use Rattle.lab_origin.proofs.OriginLemmas.{alike_law, finished_law, mended_law}
use Rattle.lab_origin.proofs.laws.origin_laws.Goals as goal

pub returns : goal.returns
returns c = record { mended = mended_law; finished = finished_law; alike = alike_law }
