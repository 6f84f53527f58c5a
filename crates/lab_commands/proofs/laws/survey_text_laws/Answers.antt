use Rattle.lab_commands.proofs.ReportLaws.{counts_law, keys_law, reasons_law}
use Rattle.lab_commands.proofs.laws.survey_text_laws.Goals as goal

pub returns : goal.returns
returns c = record { keys = keys_law; counts = counts_law; reasons = reasons_law }
