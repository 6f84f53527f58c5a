use Rattle.promises.proofs.StreamLemmas.{cut_short, cut_short_out, bad_header, eleven}
use Rattle.promises.proofs.laws.worked_streams.Goals as goal

pub returns : goal.returns
returns c = record { cut_short = cut_short; cut_short_out = cut_short_out; bad_header = bad_header; eleven = eleven }
