use Rattle.std.proofs.Common.{◌∙◌}
use Rattle.lab_correct.proofs.DecodedLemmas.{read_is}
use Rattle.lab_correct.proofs.coded_page.read_decoded.Goals as goal

pub returns-clause-read : goal.returns-clause-read
returns-clause-read g c = λ all told within.
    read_is c.args.geometry.now.data_bytes c.args.geometry.now.spare_bytes _ _ c.args.row _ all c.read_at.new.buffer _ c.requires.raw_whole (c.read_at.auto.buffer ∙ c.requires.raw_whole) c.from.ensures
    (c.in_ok-read_at.ensures.read all told) c.decode.ensures within
