use Rattle.lab_commands.proofs.ReportLaws.{block_law, claim_law, status_law}
use Rattle.lab_commands.proofs.laws.report_laws.Goals as goal

pub returns : goal.returns
returns c = record { claim = claim_law; block = block_law; status = status_law }
